-- Decimal and hexadecimal digits: and how many there are. Assumes nothing.
use mathlib.Core.Path.{◌≡◌, refl, sym, ap, ◌∙◌, subst}
use mathlib.Core.Bool.{Bool, true, false, cond}
use mathlib.Core.List.{List, [], ◌∷◌, ◌++◌}
use Prim.Native.Nat.{ℕ, zero, suc, ◌+◌, ◌-◌, ◌*◌, ◌/◌, ◌%◌, ◌^◌, ◌<◌, ◌≤◌}
use native.Mathlib.Nat.{pow-suc, div-lt_iff_lt-mul}
use native.Mathlib.Omega.{arith}
use native.Mathlib.Decide.{dec_lt}
use lib.Dec.{ltb}
use lib.ListN.{length, get_or, length-append}
use borrow.Author.Tests.{lt-ltb, le-ltb}
use Rattle.words.proofs.Concat.{concat-length}
use Rattle.foldtext.specs.Line.{hex_digits}
use Rattle.filetext.specs.Text.{decimal_digits, decimal, hex_of}

-- ---- decimal digits

-- a number below ten is its digit
digits-one : (n x : ℕ) → x < 10 → decimal_digits (suc n) x ≡ (48 + x) ∷ []
unfolding decimal_digits
digits-one n x h = ap (λ (b : Bool). cond b ((48 + x) ∷ []) (decimal_digits n (x / 10) ++ ((48 + x % 10) ∷ []))) (lt-ltb x 10 h)

-- any other has its last digit after the others
digits_more : (n x : ℕ) → 10 ≤ x → decimal_digits (suc n) x ≡ decimal_digits n (x / 10) ++ ((48 + x % 10) ∷ [])
unfolding decimal_digits
digits_more n x h = ap (λ (b : Bool). cond b ((48 + x) ∷ []) (decimal_digits n (x / 10) ++ ((48 + x % 10) ∷ []))) (le-ltb x 10 h)

-- a number below 10^n that isn't below ten has two digits or more; without its last it is below 10^(n-1)
power-less : (n x : ℕ) → 10 ≤ x → x < 10 ^ n → (2 ≤ n) × (x / 10 < 10 ^ (n - 1))
power-less zero x ten h = absurd (omega arith)
power-less (suc zero) x ten h = absurd (omega arith)
power-less (suc (suc n)) x ten h =
    let less : suc (suc n) - 1 ≡ suc n = omega arith in
    (omega arith, rw less ((div-lt_iff_lt-mul {k = 10} {x = x} {y = 10 ^ suc n} (omega arith)).1 (rw pow-suc at h)))

-- so it has no more than n
pub decimal-length : (m n x : ℕ) → 1 ≤ n → x < 10 ^ n → length (decimal_digits m x) ≤ n
unfolding decimal_digits
decimal-length zero n x one h = omega arith
decimal-length (suc m) n x one h = here (dec_lt x 10) (decimal-length m (n - 1) (x / 10))
  where
    here : Dec (x < 10) → (1 ≤ n - 1 → x / 10 < 10 ^ (n - 1) → length (decimal_digits m (x / 10)) ≤ n - 1)
        → length (decimal_digits (suc m) x) ≤ n
    here (yes lt) fewer = rw (digits-one m x lt) one
    here (no ge) fewer =
        let less = power-less n x (omega arith) h in
        let rest = fewer (omega arith) less.1 in
        rw (digits_more m x (omega arith)) (omega (arith, length-append (decimal_digits m (x / 10)) ((48 + x % 10) ∷ [])))

-- nor more than it may have
pub decimal-most : (m x : ℕ) → length (decimal_digits m x) ≤ m
unfolding decimal_digits
decimal-most zero x = omega arith
decimal-most (suc m) x = here (ltb x 10) (decimal-most m (x / 10))
  where
    here : (b : Bool) → length (decimal_digits m (x / 10)) ≤ m
        → length (cond b ((48 + x) ∷ []) (decimal_digits m (x / 10) ++ ((48 + x % 10) ∷ []))) ≤ suc m
    here true fewer = omega arith
    here false fewer = omega (arith, length-append (decimal_digits m (x / 10)) ((48 + x % 10) ∷ []))

-- ---- a number in decimal

pub decimal-one : (x : ℕ) → x < 10 → decimal x ≡ (48 + x) ∷ []
decimal-one x h = digits-one 19 x h

-- more room adds no digit
same-digits : (n x : ℕ) → 1 ≤ n → x < 10 ^ n → decimal_digits n x ≡ decimal_digits (suc n) x
same-digits zero x one h = absurd (omega arith)
same-digits (suc n) x one h = here (dec_lt x 10) (same-digits n (x / 10))
  where
    here : Dec (x < 10) → (1 ≤ n → x / 10 < 10 ^ n → decimal_digits n (x / 10) ≡ decimal_digits (suc n) (x / 10))
        → decimal_digits (suc n) x ≡ decimal_digits (suc (suc n)) x
    here (yes lt) same = digits-one n x lt ∙ sym (digits-one (suc n) x lt)
    here (no ge) same =
        let less = power-less (suc n) x (omega arith) h in
        let one-less : suc n - 1 ≡ n = omega arith in
        let low : x / 10 < 10 ^ n = subst (λ (m : ℕ). x / 10 < 10 ^ m) one-less less.1 in
        digits_more n x (omega arith)
        ∙ ap (λ (l : List ℕ). l ++ ((48 + x % 10) ∷ [])) (same (omega (arith, less.0)) low)
        ∙ sym (digits_more (suc n) x (omega arith))

pub decimal-more : (x : ℕ) → 10 ≤ x → x < 2 ^ 64 → decimal x ≡ decimal (x / 10) ++ ((48 + x % 10) ∷ [])
decimal-more x ten h =
    digits_more 19 x ten ∙ ap (λ (l : List ℕ). l ++ ((48 + x % 10) ∷ [])) (same-digits 19 (x / 10) (omega arith) (omega arith))

-- ---- hexadecimal digits

pub hex-length : (s : List ℕ) → length (hex_of s) ≡ length s * 2
unfolding hex_of hex_digits
hex-length s = concat-length (λ i. hex_digits 2 (get_or s i 0)) 2 (length s) (λ i h. refl)
