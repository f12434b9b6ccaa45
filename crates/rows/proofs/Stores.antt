-- Laws of values that are stored 16 cells apart: of words, each a cell, and of rows, where a cell is eight bytes. Assumes nothing.
use mathlib.Core.Path.{◌≡◌, refl, sym, ap, ◌∙◌, subst}
use mathlib.Core.List.{List}
use Prim.Native.Nat.{ℕ, zero, suc, ◌+◌, ◌*◌, ◌≤◌, ◌<◌}
use native.Mathlib.Nat.{not-suc-le-zero}
use native.Mathlib.Numerals.{add-one}
use native.Mathlib.Omega.{arith}
use native.Mathlib.Decide.{dec_lt}
use borrow.Author.Count.{below_more}
use lib.ListN.{length, get_or, set, length-set}
use lib.Seq.{get_or-set_same, get_or-set_other}
use Rattle.words.specs.Bytes.{bytes}
use Rattle.words.proofs.Parts.{put-length, put-before, put_in, put-after}
use Rattle.rows.specs.Gather.{stores, store_bytes}

-- one value more
pub stores-next : (store : List ℕ → ℕ → ℕ → List ℕ) (n : ℕ) (l : List ℕ) (i : ℕ) (v : List ℕ)
    → store (stores store n l i v) (16 * n + i) (get_or v n 0) ≡ stores store (n + 1) l i v
unfolding stores
stores-next store n l i v = ap (λ (m : ℕ). stores store m l i v) (sym (add-one n))

-- a list of 128 cells of m elements: `store` lays a value into cell u, whose element x stands at `pos u x` and becomes `cell v x`
module _ (store : List ℕ → ℕ → ℕ → List ℕ) (size m : ℕ) (pos cell : ℕ → ℕ → ℕ)
    (kept : (l : List ℕ) (u v : ℕ) → u < 128 → length l ≡ size → length (store l u v) ≡ size)
    (same : (l : List ℕ) (u v x : ℕ) → u < 128 → x < m → length l ≡ size → get_or (store l u v) (pos u x) 0 ≡ cell v x)
    (other : (l : List ℕ) (u v u' x : ℕ) → u < 128 → x < m → length l ≡ size → (u' ≡ u → ⊥)
    → get_or (store l u v) (pos u' x) 0 ≡ get_or l (pos u' x) 0) where
  stores-length : (n : ℕ) (l : List ℕ) (i : ℕ) (v : List ℕ) → n ≤ 8 → i < 16 → length l ≡ size → length (stores store n l i v) ≡ size
  unfolding stores
  stores-length zero l i v hn hi e = e
  stores-length (suc n) l i v hn hi e =
      kept (stores store n l i v) (16 * n + i) (get_or v n 0) (omega arith) (stores-length n l i v (omega arith) hi e)

  -- one store of them, into another cell
  passed : (n : ℕ) (l : List ℕ) (i : ℕ) (v : List ℕ) (u x : ℕ) → n < 8 → i < 16 → x < m → length l ≡ size → (u ≡ 16 * n + i → ⊥)
      → get_or (store (stores store n l i v) (16 * n + i) (get_or v n 0)) (pos u x) 0 ≡ get_or (stores store n l i v) (pos u x) 0
  passed n l i v u x hn hi hx e =
      other (stores store n l i v) (16 * n + i) (get_or v n 0) u x (omega arith) hx (stores-length n l i v (omega arith) hi e)

  stores-other : (n : ℕ) (l : List ℕ) (i : ℕ) (v : List ℕ) (k c x : ℕ) → n ≤ 8 → i < 16 → k < 16 → x < m → length l ≡ size → (k ≡ i → ⊥)
      → get_or (stores store n l i v) (pos (16 * c + k) x) 0 ≡ get_or l (pos (16 * c + k) x) 0
  unfolding stores
  stores-other zero l i v k c x hn hi hk hx e ne = refl
  stores-other (suc n) l i v k c x hn hi hk hx e ne =
      passed n l i v (16 * c + k) x (omega arith) hi hx e (λ q. absurd (omega arith)) ∙ stores-other n l i v k c x (omega arith) hi hk hx e ne

  stores_same : (n : ℕ) (l : List ℕ) (i : ℕ) (v : List ℕ) (c x : ℕ) → n ≤ 8 → i < 16 → x < m → length l ≡ size → c < n
      → get_or (stores store n l i v) (pos (16 * c + i) x) 0 ≡ cell (get_or v c 0) x
  unfolding stores
  stores_same zero l i v c x hn hi hx e h = absurd (not-suc-le-zero h)
  stores_same (suc n) l i v c x hn hi hx e h =
      below_more (λ (c : ℕ). get_or (store (stores store n l i v) (16 * n + i) (get_or v n 0)) (pos (16 * c + i) x) 0 ≡ cell (get_or v c 0) x) n
      (λ c lt. passed n l i v (16 * c + i) x (omega arith) hi hx e (λ q. absurd (omega arith)) ∙ stores_same n l i v c x (omega arith) hi hx e lt)
      (same (stores store n l i v) (16 * n + i) (get_or v n 0) x (omega arith) hx (stores-length n l i v (omega arith) hi e))
      c (omega arith)

  -- eight more values: what is known of the cells below i is known below i + 1
  stores-more : (P : (k c x y : ℕ) → Type 0) (l l' : List ℕ) (i : ℕ) (v : List ℕ) → i < 16 → length l ≡ size → l' ≡ stores store 8 l i v
      → ((c x : ℕ) → c < 8 → x < m → P i c x (cell (get_or v c 0) x))
      → ((k c x : ℕ) → k < i → c < 8 → x < m → P k c x (get_or l (pos (16 * c + k) x) 0))
      → (k c x : ℕ) → k < i + 1 → c < 8 → x < m → P k c x (get_or l' (pos (16 * c + k) x) 0)
  stores-more P l l' i v hi e made new old k c x hk hc hx =
      subst (λ (l : List ℕ). P k c x (get_or l (pos (16 * c + k) x) 0)) (sym made)
      (below_more (λ (k : ℕ). P k c x (get_or (stores store 8 l i v) (pos (16 * c + k) x) 0)) i
      (λ k lt.
      subst (P k c x) (sym (stores-other 8 l i v k c x (omega arith) hi (omega arith) hx e (λ q. absurd (omega arith)))) (old k c x lt hc hx))
      (subst (P i c x) (sym (stores_same 8 l i v c x (omega arith) hi hx e hc)) (new c x hc hx)) k hk)

-- ---- words, each a cell

word_kept : (l : List ℕ) (u v : ℕ) → u < 128 → length l ≡ 128 → length (set l u v) ≡ 128
word_kept l u v h e = length-set l u v ∙ e

word_same : (l : List ℕ) (u v x : ℕ) → u < 128 → x < 1 → length l ≡ 128 → get_or (set l u v) u 0 ≡ v
word_same l u v x h hx e = get_or-set_same l u v 0 (omega arith)

word-other : (l : List ℕ) (u v u' x : ℕ) → u < 128 → x < 1 → length l ≡ 128 → (u' ≡ u → ⊥) → get_or (set l u v) u' 0 ≡ get_or l u' 0
word-other l u v u' x h hx e ne = get_or-set_other l u u' v 0 ne

pub words_more : (P : (k c y : ℕ) → Type 0) (w w' : List ℕ) (i : ℕ) (v : List ℕ) → i < 16 → length w ≡ 128 → w' ≡ stores set 8 w i v
    → ((c : ℕ) → c < 8 → P i c (get_or v c 0))
    → ((k c : ℕ) → k < i → c < 8 → P k c (get_or w (16 * c + k) 0))
    → (k c : ℕ) → k < i + 1 → c < 8 → P k c (get_or w' (16 * c + k) 0)
words_more P w w' i v hi e made new old k c hk hc =
    stores-more set 128 1 (λ u x. u) (λ v x. v) word_kept word_same word-other (λ k c x y. P k c y) w w' i v hi e made
    (λ c x hc hx. new c hc) (λ k c x hk hc hx. old k c hk hc) k c 0 hk hc (omega arith)

-- ---- rows, eight bytes to a cell

bytes-kept : (l : List ℕ) (u v : ℕ) → u < 128 → length l ≡ 1024 → length (store_bytes l u v) ≡ 1024
bytes-kept l u v h e = put-length l (8 * u) (bytes 8 v) (omega arith) ∙ e

bytes_same : (l : List ℕ) (u v x : ℕ) → u < 128 → x < 8 → length l ≡ 1024 → get_or (store_bytes l u v) (8 * u + x) 0 ≡ get_or (bytes 8 v) x 0
bytes_same l u v x h hx e = put_in l (8 * u) (bytes 8 v) (omega arith) x hx

bytes-other : (l : List ℕ) (u v u' x : ℕ) → u < 128 → x < 8 → length l ≡ 1024 → (u' ≡ u → ⊥)
    → get_or (store_bytes l u v) (8 * u' + x) 0 ≡ get_or l (8 * u' + x) 0
bytes-other l u v u' x h hx e ne = here (dec_lt u' u)
  where
    here : Dec (u' < u) → get_or (store_bytes l u v) (8 * u' + x) 0 ≡ get_or l (8 * u' + x) 0
    here (yes b) = put-before l (8 * u) (bytes 8 v) (omega arith) (8 * u' + x) (omega arith)
    here (no b) = put-after l (8 * u) (bytes 8 v) (omega arith) (8 * u' + x) (omega arith)

pub bytes-more : (P : (k c x y : ℕ) → Type 0) (l l' : List ℕ) (i : ℕ) (v : List ℕ) → i < 16 → length l ≡ 1024
    → l' ≡ stores store_bytes 8 l i v
    → ((c x : ℕ) → c < 8 → x < 8 → P i c x (get_or (bytes 8 (get_or v c 0)) x 0))
    → ((k c x : ℕ) → k < i → c < 8 → x < 8 → P k c x (get_or l (8 * (16 * c + k) + x) 0))
    → (k c x : ℕ) → k < i + 1 → c < 8 → x < 8 → P k c x (get_or l' (8 * (16 * c + k) + x) 0)
bytes-more = stores-more store_bytes 1024 8 (λ u x. 8 * u + x) (λ v x. get_or (bytes 8 v) x 0) bytes-kept bytes_same bytes-other
