-- Why keys 0 and 1 are not usable. Paper 02, note 5. Assumes nothing.
use Rattle.std.proofs.Common.{◌≡◌, ℕ, zero, suc, ◌+◌, ◌*◌, ◌/◌, ◌%◌, ◌^◌, ◌<◌, List, [], ◌∷◌, ◌++◌, length, get_or, sym, refl, ap, ◌∙◌, ap₂, one-mul, pow-suc, mul-zero, zero-mul, mul-one, arith, pow_pos}
use lib.Bits.{bit_xor, xor_zero_r, xor_comm, xor_lt, xor_block}
use Rattle.words.specs.Xor.{◌⊕◌, sum_to}
use Rattle.words.proofs.Xor.{digit, low-lt, xor_assoc}
use Rattle.words.proofs.Sums.{sum_to-first}
use Rattle.gf64.specs.Field.{times_x, times_low, times, fold_from, fold}
use Rattle.gf64.proofs.FoldLaws.{times_x-xor, times_low-lt, Words64}

-- ---- key 0: the fold is the last word, whatever comes before it

zero-times : (n a : ℕ) → times_low n 0 a ≡ 0
unfolding times_low times_x
zero-times zero a = refl
zero-times (suc n) a = ap₂ bit_xor (mul-zero (a % 2)) (zero-times n (a / 2))

pub fold-zero : (ws : List ℕ) (w : ℕ) → fold 0 (ws ++ (w ∷ [])) ≡ w
unfolding fold_from
fold-zero ws w = from 0 ws
  where
    from : (acc : ℕ) (ws : List ℕ) → fold_from 0 acc (ws ++ (w ∷ [])) ≡ w
    from acc [] = ap (λ (x : ℕ). x ⊕ w) (zero-times 64 acc)
    from acc (v ∷ ws) = from (times 0 acc ⊕ v) ws

-- ---- key 1: it is the sum of all words, whatever their order

zero-X : times_x 0 ≡ 0
unfolding times_x
zero-X = refl

-- a product with X times g is X times that with g: of one bit, and of any number of bits
scaled-X : (d g : ℕ) → d < 2 → times_x (d * g) ≡ d * times_x g
scaled-X d g lt =
    digit (λ (d : ℕ). times_x (d * g) ≡ d * times_x g)
    (ap times_x (zero-mul g) ∙ zero-X ∙ sym (zero-mul (times_x g))) (ap times_x (one-mul g) ∙ sym (one-mul (times_x g))) d lt

times-X : (n g a : ℕ) → times_low n (times_x g) a ≡ times_x (times_low n g a)
unfolding times_low
times-X zero g a = sym zero-X
times-X (suc n) g a =
    ap₂ bit_xor (sym (scaled-X (a % 2) g (low-lt a))) (times-X n (times_x g) (a / 2)) ∙ sym (times_x-xor (a % 2 * g) (times_low n (times_x g) (a / 2)))

-- X times a word whose highest bit is 0
small-X : (a : ℕ) → a < 2 ^ 63 → times_x a ≡ a * 2
unfolding times_x
small-X a lt =
    let low : a * 2 % 2 ^ 64 ≡ a * 2 = omega arith in
    let none : a / 2 ^ 63 % 2 * 27 ≡ 0 = omega arith in
    ap₂ bit_xor low none ∙ xor_zero_r (a * 2)

-- a lowest bit beside the others
low-beside : (d y : ℕ) → d < 2 → d ⊕ y * 2 ≡ d + y * 2
low-beside d y lt =
    let lowest : d ≡ 0 * 2 ^ 1 + d = omega arith in
    let others : y * 2 ≡ y * 2 ^ 1 + 0 = omega arith in
    ap₂ bit_xor lowest others ∙ xor_block 1 0 y d 0 lt (omega arith) ∙ omega (arith, xor_zero_r d)

-- so a product with 1 is the word itself: of n bits, and of all
one-times : (n a : ℕ) → a < 2 ^ n → a < 2 ^ 64 → times_low n 1 a ≡ a
unfolding times_low
one-times zero a h lt = omega arith
one-times (suc n) a h lt =
    let double : 2 ^ suc n ≡ 2 ^ n * 2 = pow-suc 2 n in
    let others : times_low n (times_x 1) (a / 2) ≡ a / 2 * 2 =
    times-X n 1 (a / 2) ∙ ap times_x (one-times n (a / 2) (omega (arith, double)) (omega arith)) ∙ small-X (a / 2) (omega arith) in
    let whole : a % 2 + a / 2 * 2 ≡ a = omega arith in
    ap₂ bit_xor (mul-one (a % 2)) others ∙ low-beside (a % 2) (a / 2) (low-lt a) ∙ whole

one_word : (a : ℕ) → a < 2 ^ 64 → times 1 a ≡ a
one_word a lt = one-times 64 a lt lt

pub fold-one : (ws : List ℕ) → Words64 ws → fold 1 ws ≡ sum_to (length ws) (λ i. get_or ws i 0)
unfolding fold_from sum_to
fold-one ws words = from 0 ws (pow_pos 64) words
  where
    from : (acc : ℕ) (ws : List ℕ) → acc < 2 ^ 64 → Words64 ws → fold_from 1 acc ws ≡ acc ⊕ sum_to (length ws) (λ i. get_or ws i 0)
    from acc [] lt words = sym (xor_zero_r acc)
    from acc (w ∷ ws) lt words =
        ap (λ (x : ℕ). fold_from 1 (x ⊕ w) ws) (one_word acc lt)
        ∙ from (acc ⊕ w) ws (xor_lt 64 acc w lt (words 0)) (λ i. words (suc i))
        ∙ xor_assoc acc w (sum_to (length ws) (λ i. get_or ws i 0))
        ∙ ap (bit_xor acc) (sym (sum_to-first (length ws) (λ i. get_or (w ∷ ws) i 0)))

-- neighbours may be exchanged, so any words
pub fold-one-order : (us : List ℕ) (a b : ℕ) (vs : List ℕ) → Words64 (us ++ (a ∷ b ∷ vs))
    → fold 1 (us ++ (a ∷ b ∷ vs)) ≡ fold 1 (us ++ (b ∷ a ∷ vs))
unfolding fold_from
fold-one-order us a b vs words = from 0 us (pow_pos 64) words
  where
    from : (acc : ℕ) (us : List ℕ) → acc < 2 ^ 64 → Words64 (us ++ (a ∷ b ∷ vs))
        → fold_from 1 acc (us ++ (a ∷ b ∷ vs)) ≡ fold_from 1 acc (us ++ (b ∷ a ∷ vs))
    from acc [] lt words =
        ap (λ (x : ℕ). fold_from 1 x vs)
        (two a b (words 0) ∙ xor_assoc acc a b ∙ ap (bit_xor acc) (xor_comm a b) ∙ sym (xor_assoc acc b a) ∙ sym (two b a (words 1)))
      where
        two : (x y : ℕ) → x < 2 ^ 64 → times 1 (times 1 acc ⊕ x) ⊕ y ≡ acc ⊕ x ⊕ y
        two x y small =
            ap (λ (z : ℕ). times 1 (z ⊕ x) ⊕ y) (one_word acc lt) ∙ ap (λ (z : ℕ). z ⊕ y) (one_word (acc ⊕ x) (xor_lt 64 acc x lt small))
    from acc (u ∷ us) lt words =
        from (times 1 acc ⊕ u) us (xor_lt 64 (times 1 acc) u (times_low-lt 64 1 acc (omega arith)) (words 0)) (λ i. words (suc i))
