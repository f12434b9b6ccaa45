-- What a walk of four trees adds to the sums of the leaves' streams and to their columns. Assumes nothing.
use Rattle.std.proofs.Common.{◌≡◌, ℕ, suc, ◌+◌, ◌-◌, ◌*◌, ◌/◌, ◌%◌, ◌^◌, ◌<◌, ◌≤◌, List, length, get_or, sym, refl, ap, ◌∙◌, subst, ap₂, mod-lt, suc-mul, one-mul, div-add-mod', zero-mul, arith}
use native.Mathlib.Decide.{dec_lt}
use lib.Arith.{digits_div, digits_mod}
use lib.Bits.{bit_xor, xor_zero_r}
use Rattle.words.specs.Bits.{bit_of}
use Rattle.words.specs.Xor.{◌⊕◌, xor_each, xor_part}
use Rattle.words.proofs.Xor.{xor_assoc, xor-around}
use Rattle.words.proofs.Sums.{zero_bit, power-bit, power-other}
use Rattle.words.proofs.Lists.{xor_each-length, xor_each-at, xor_each-is, xor_each-cong, xor_each-zero, xor_each-twice}
use Rattle.words.proofs.Parts.{xor_part-length, xor_part-before, xor_part-in, xor_part-after}
use Rattle.chacha20.specs.ChaCha.{block_words}
use Rattle.chacha20_four.specs.FourStates.{key_in, blocks_of}
use Rattle.tree.specs.Tree.{child_of, sum_below}
use Rattle.tree.specs.WalkWords.{u_word, column_word}
use Rattle.tree.specs.Streams.{block_word}
use Rattle.tree.proofs.Sums.{sum_number, sum-bit}
use Rattle.tree.proofs.WalkWords.{blocks-word}

-- ---- four leaves

-- four blocks side by side are 64 places of the blocks of four keys
pub stream-word : (keys c nonce : List ℕ) (counter at j : ℕ) → c ≡ blocks_of keys counter nonce → at ≡ 64 * counter → j < 64
    → get_or c j 0 ≡ u_word (block_word nonce) 0 keys (at + j)
unfolding sum_below
stream-word keys c nonce counter at j made e h =
    let lane : j % 4 ≡ (at + j) % 4 = omega arith in
    let block : counter ≡ (at + j) / 4 / 16 = omega arith in
    let word : j / 4 ≡ (at + j) / 4 % 16 = omega arith in
    ap (λ (z : List ℕ). get_or z j 0) made
    ∙ blocks-word keys counter nonce j h
    ∙ ap₂ (λ (l n : ℕ). get_or (block_words (key_in l keys) n nonce) (j / 4) 0) lane block
    ∙ ap (λ (w : ℕ). get_or (block_words (key_in ((at + j) % 4) keys) ((at + j) / 4 / 16) nonce) w 0) word

-- leaves have no levels below them: their columns stay as they are
pub leaf-columns : (word : ℕ → List ℕ → ℕ) (len : ℕ) (nodes v : List ℕ) → v ≡ xor_each v (column_word word len 0 nodes)
unfolding sum_below
leaf-columns word len nodes v =
    sym
    (xor_each-zero v (column_word word len 0 nodes)
    (λ i lt.
    let s : ℕ = word (i % len / 4) (key_in (i % len % 4) nodes) in
    ap (λ (x : ℕ). x * s) (zero_bit (i / len)) ∙ zero-mul s))

-- ---- four nodes that have children

module _ (word : ℕ → List ℕ → ℕ) (r : ℕ) (nodes a b : List ℕ)
    (left : (l : ℕ) → l < 4 → key_in l a ≡ child_of 0 (key_in l nodes)) (right : (l : ℕ) → l < 4 → key_in l b ≡ child_of 1 (key_in l nodes)) where
  -- the leaves below the left nodes and those below the right ones
  u-at : (i : ℕ) → u_word word r a i ⊕ u_word word r b i ≡ u_word word (suc r) nodes i
  unfolding sum_below
  u-at i =
      ap₂ (λ (x y : List ℕ). sum_below r x 0 (λ z m. word (i / 4) m) ⊕ sum_below r y 0 (λ z m. word (i / 4) m))
      (left (i % 4) (omega arith)) (right (i % 4) (omega arith))
      ∙ ap (bit_xor (sum_below r (child_of 0 (key_in (i % 4) nodes)) 0 (λ z m. word (i / 4) m)))
      (sum_number r (child_of 1 (key_in (i % 4) nodes)) 0 1 (word (i / 4)))

  pub u-added : (u u₁ u₂ : List ℕ) → u₁ ≡ xor_each u (u_word word r a) → u₂ ≡ xor_each u₁ (u_word word r b)
      → u₂ ≡ xor_each u (u_word word (suc r) nodes)
  u-added u u₁ u₂ e₁ e₂ =
      e₂
      ∙ ap (λ (w : List ℕ). xor_each w (u_word word r b)) e₁
      ∙ xor_each-twice u (u_word word r a) (u_word word r b)
      ∙ xor_each-cong u (λ i. u_word word r a i ⊕ u_word word r b i) (u_word word (suc r) nodes) (λ i lt. u-at i)

  -- a column is the left nodes' and the right nodes', and at this level all leaves below the right nodes
  column-at : (len i : ℕ)
      → column_word word len r a i ⊕ (column_word word len r b i ⊕ bit_of (2 ^ r) (i / len) * u_word word r b (i % len))
      ≡ column_word word len (suc r) nodes i
  unfolding sum_below
  column-at len i =
      ap₂ (λ (x y : List ℕ). sum_below r x 0 f ⊕ (sum_below r y 0 f ⊕ bit_of (2 ^ r) (i / len) * sum_below r y 0 (λ z m. g m)))
      (left (i % len % 4) (omega arith)) (right (i % len % 4) (omega arith))
      ∙ ap (bit_xor (sum_below r (child_of 0 (key_in (i % len % 4) nodes)) 0 f))
      (sym (sum-bit (i / len) r (child_of 1 (key_in (i % len % 4) nodes)) g))
    where
      g : List ℕ → ℕ
      g m = word (i % len / 4) m

      f : ℕ → List ℕ → ℕ
      f z m = bit_of z (i / len) * g m

  module _ (len : ℕ) (u u₁ u₂ v v₁ v₂ v₃ v₄ : List ℕ) (pos : 0 < len) (size : length u ≡ len) (fits : r * len + len ≤ length v)
      (t₁ : u₁ ≡ xor_each u (u_word word r a)) (t₂ : u₂ ≡ xor_each u₁ (u_word word r b))
      (e₁ : v₁ ≡ xor_each v (column_word word len r a)) (e₂ : v₂ ≡ xor_part v₁ (r * len) len (λ i. get_or u₁ i 0))
      (e₃ : v₃ ≡ xor_each v₂ (column_word word len r b)) (e₄ : v₄ ≡ xor_part v₃ (r * len) len (λ i. get_or u₂ i 0)) where
    l₁ : length v₁ ≡ length v
    l₁ = ap length e₁ ∙ xor_each-length v (column_word word len r a)

    f₁ : r * len + len ≤ length v₁
    f₁ = omega (arith, l₁)

    l₂ : length v₂ ≡ length v
    l₂ = ap length e₂ ∙ xor_part-length v₁ (r * len) len (λ i. get_or u₁ i 0) f₁ ∙ l₁

    l₃ : length v₃ ≡ length v
    l₃ = ap length e₃ ∙ xor_each-length v₂ (column_word word len r b) ∙ l₂

    f₃ : r * len + len ≤ length v₃
    f₃ = omega (arith, l₃)

    l₄ : length v₄ ≡ length v
    l₄ = ap length e₄ ∙ xor_part-length v₃ (r * len) len (λ i. get_or u₂ i 0) f₃ ∙ l₃

    -- what each step adds at a place
    u-later : (j : ℕ) → j < len → get_or u₂ j 0 ≡ get_or u₁ j 0 ⊕ u_word word r b j
    u-later j h =
        ap (λ (l : List ℕ). get_or l j 0) t₂
        ∙ xor_each-at u₁ (u_word word r b) j (omega (arith, size, ap length t₁, xor_each-length u (u_word word r a)))

    v-first : (i : ℕ) → i < length v → get_or v₁ i 0 ≡ get_or v i 0 ⊕ column_word word len r a i
    v-first i h = ap (λ (l : List ℕ). get_or l i 0) e₁ ∙ xor_each-at v (column_word word len r a) i h

    v-third : (i : ℕ) → i < length v → get_or v₃ i 0 ≡ get_or v₂ i 0 ⊕ column_word word len r b i
    v-third i h = ap (λ (l : List ℕ). get_or l i 0) e₃ ∙ xor_each-at v₂ (column_word word len r b) i (omega (arith, l₂))

    -- the columns of the other levels
    outside : (i : ℕ) → i < length v → (i / len ≡ r → ⊥) → get_or v₂ i 0 ≡ get_or v₁ i 0 → get_or v₄ i 0 ≡ get_or v₃ i 0
        → get_or v₄ i 0 ≡ get_or v i 0 ⊕ column_word word len (suc r) nodes i
    outside i h ne p q =
        let x : ℕ = column_word word len r a i in
        let y : ℕ = column_word word len r b i in
        let w : ℕ = u_word word r b (i % len) in
        q
        ∙ v-third i h
        ∙ ap (λ (z : ℕ). z ⊕ y) (p ∙ v-first i h)
        ∙ xor_assoc (get_or v i 0) x y
        ∙ ap (λ (z : ℕ). get_or v i 0 ⊕ (x ⊕ z))
        (sym (ap (λ (z : ℕ). y ⊕ z * w) (power-other r (i / len) ne) ∙ ap (bit_xor y) (zero-mul w) ∙ xor_zero_r y))
        ∙ ap (bit_xor (get_or v i 0)) (column-at len i)

    -- the column of this level: the sum is added before the right leaves come and after them, so that only they stay
    inside : (j : ℕ) → j < len → get_or v₄ (r * len + j) 0 ≡ get_or v (r * len + j) 0 ⊕ column_word word len (suc r) nodes (r * len + j)
    inside j h =
        let i : ℕ = r * len + j in
        let lt : r * len + j < length v = omega arith in
        let x : ℕ = column_word word len r a i in
        let y : ℕ = column_word word len r b i in
        let w : ℕ = u_word word r b j in
        ap (λ (l : List ℕ). get_or l i 0) e₄
        ∙ xor_part-in v₃ (r * len) len (λ i. get_or u₂ i 0) f₃ j h
        ∙ ap₂ bit_xor
        (v-third i lt
        ∙ ap (λ (z : ℕ). z ⊕ y)
        (ap (λ (l : List ℕ). get_or l i 0) e₂
        ∙ xor_part-in v₁ (r * len) len (λ i. get_or u₁ i 0) f₁ j h
        ∙ ap (λ (z : ℕ). z ⊕ get_or u₁ j 0) (v-first i lt)))
        (u-later j h)
        ∙ xor-around (get_or v i 0 ⊕ x) (get_or u₁ j 0) y w
        ∙ xor_assoc (get_or v i 0) x (y ⊕ w)
        ∙ ap (λ (z : ℕ). get_or v i 0 ⊕ (x ⊕ (y ⊕ z)))
        (sym
        (ap₂ (λ (c k : ℕ). bit_of (2 ^ r) c * u_word word r b k) (digits_div r h) (digits_mod r h)
        ∙ ap (λ (z : ℕ). z * w) (power-bit r)
        ∙ one-mul w))
        ∙ ap (bit_xor (get_or v i 0)) (column-at len i)

    at : (i : ℕ) → i < length v → Dec (i < r * len) → Dec (i < r * len + len)
        → get_or v₄ i 0 ≡ get_or v i 0 ⊕ column_word word len (suc r) nodes i
    at i h (yes lo) d =
        outside i h (λ q. omega (arith, div-add-mod' i len, ap (λ (x : ℕ). x * len) q, lo))
        (ap (λ (l : List ℕ). get_or l i 0) e₂ ∙ xor_part-before v₁ (r * len) len (λ i. get_or u₁ i 0) f₁ i lo)
        (ap (λ (l : List ℕ). get_or l i 0) e₄ ∙ xor_part-before v₃ (r * len) len (λ i. get_or u₂ i 0) f₃ i lo)
    at i h (no lo) (yes hi) =
        let back : r * len + (i - r * len) ≡ i = omega arith in
        subst (λ (k : ℕ). get_or v₄ k 0 ≡ get_or v k 0 ⊕ column_word word len (suc r) nodes k) back (inside (i - r * len) (omega arith))
    at i h (no lo) (no hi) =
        outside i h (λ q. omega (arith, div-add-mod' i len, ap (λ (x : ℕ). x * len) q, mod-lt i pos, hi))
        (ap (λ (l : List ℕ). get_or l i 0) e₂ ∙ xor_part-after v₁ (r * len) len (λ i. get_or u₁ i 0) f₁ i (omega arith))
        (ap (λ (l : List ℕ). get_or l i 0) e₄ ∙ xor_part-after v₃ (r * len) len (λ i. get_or u₂ i 0) f₃ i (omega arith))

    pub columns-added : v₄ ≡ xor_each v (column_word word len (suc r) nodes)
    columns-added = xor_each-is v v₄ (column_word word len (suc r) nodes) l₄ (λ i h. at i h (dec_lt i (r * len)) (dec_lt i (r * len + len)))

-- ---- one step of the walk

-- the column of the nodes' own level fits, also in ranges of the same lengths
pub column_fits : {l n m n' m' : ℕ} → (l ≡ 0 → ⊥) → l * n ≤ m → n' ≡ n → m' ≡ m → (l - 1) * n' + n' ≤ m'
column_fits {l} {n} h fits p q =
    let e : suc (l - 1) ≡ l = omega arith in
    rw (p, q) (omega (arith, suc-mul (l - 1) n, ap (λ (k : ℕ). k * n) e))

-- the left children's leaves, u added to their column, the right children's leaves, and u added once more
pub walked : (word : ℕ → List ℕ → ℕ) (l : ℕ) (nodes a b u u₁ u₂ v v₁ v₂ v₃ v₄ : List ℕ) → (l ≡ 0 → ⊥)
    → ((k : ℕ) → k < 4 → key_in k a ≡ child_of 0 (key_in k nodes)) → ((k : ℕ) → k < 4 → key_in k b ≡ child_of 1 (key_in k nodes))
    → 0 < length u → l * length u ≤ length v
    → u₁ ≡ xor_each u (u_word word (l - 1) a) → u₂ ≡ xor_each u₁ (u_word word (l - 1) b)
    → v₁ ≡ xor_each v (column_word word (length u) (l - 1) a) → v₂ ≡ xor_part v₁ ((l - 1) * length u₁) (length u₁) (λ i. get_or u₁ i 0)
    → v₃ ≡ xor_each v₂ (column_word word (length u₁) (l - 1) b) → v₄ ≡ xor_part v₃ ((l - 1) * length u₂) (length u₂) (λ i. get_or u₂ i 0)
    → (u₂ ≡ xor_each u (u_word word l nodes)) × (v₄ ≡ xor_each v (column_word word (length u) l nodes))
walked word l nodes a b u u₁ u₂ v v₁ v₂ v₃ v₄ ne left right pos fits t₁ t₂ e₁ e₂ e₃ e₄ =
    let whole : suc (l - 1) ≡ l = omega arith in
    let n₁ : length u₁ ≡ length u = ap length t₁ ∙ xor_each-length u (u_word word (l - 1) a) in
    let n₂ : length u₂ ≡ length u = ap length t₂ ∙ xor_each-length u₁ (u_word word (l - 1) b) ∙ n₁ in (
      u-added word (l - 1) nodes a b left right u u₁ u₂ t₁ t₂ ∙ ap (λ (k : ℕ). xor_each u (u_word word k nodes)) whole,
      columns-added word (l - 1) nodes a b left right (length u) u u₁ u₂ v v₁ v₂ v₃ v₄ pos refl
          (column_fits ne fits refl refl) t₁ t₂ e₁
          (subst (λ (k : ℕ). v₂ ≡ xor_part v₁ ((l - 1) * k) k (λ i. get_or u₁ i 0)) n₁ e₂)
          (subst (λ (k : ℕ). v₃ ≡ xor_each v₂ (column_word word k (l - 1) b)) n₁ e₃)
          (subst (λ (k : ℕ). v₄ ≡ xor_part v₃ ((l - 1) * k) k (λ i. get_or u₂ i 0)) n₂ e₄)
          ∙ ap (λ (k : ℕ). xor_each v (column_word word (length u) k nodes)) whole,
    )
