-- What a walk of four trees gives the receiver, as bytes, and where the sums u go. Assumes nothing.
use mathlib.Core.Path.{◌≡◌, sym, ap, ap₂, ◌∙◌, subst}
use mathlib.Core.List.{List, ◌++◌, append_assoc}
use Prim.Native.Nat.{ℕ, suc, ◌+◌, ◌-◌, ◌*◌, ◌/◌, ◌%◌, ◌≤◌, ◌<◌}
use native.Mathlib.Nat.{add-mul, mul-le-mul_right}
use native.Mathlib.Numerals.{add-one}
use native.Mathlib.Omega.{arith}
use lib.ListN.{length, get_or, take, drop, replicate, length-replicate}
use lib.Seq.{get_or-take, take_at, drop_at, drop-drop, take-append-add, drop-append-add, drop-append_seam}
use borrow.Rule.Slice.PartMut.{put_mid}
use Rattle.words.specs.Bytes.{bytes, part, tabulate, concat, put}
use Rattle.words.specs.Lanes.{lane_bytes}
use Rattle.words.specs.Xor.{xor_each, xor_list}
use Rattle.words.proofs.Lists.{tabulate-length, tabulate-at, zeros-at, zeros-sum}
use Rattle.words.proofs.Concat.{place-fits, part_at, place-part, concat-same, concat-add, concat-length, concat-part}
use Rattle.words.proofs.Parts.{put-put}
use Rattle.words.proofs.Layouts.{Laid, laid_more}
use Rattle.words.proofs.LaneBytes.{lane-is}
use Rattle.chacha20_four.specs.FourStates.{key_in}
use Rattle.tree.specs.declared.Stream.{Stream}
use Rattle.tree.specs.Columns.{u_at, receiver_at}
use Rattle.tree.specs.WalkWords.{u_word, column_word}
use Rattle.tree.specs.Streams.{byte_of, word_of}
use Rattle.tree.specs.Layout.{root_of}
use Rattle.tree.proofs.Streams.{u-lane, column-lane}
use Rattle.columns.specs.Columns.{u_of, receiver_column}
use Rattle.columns.proofs.Tables.{not_first, one-fits, receiver_column-length}

-- a range that was cleared
zero-at : (n : ℕ) (zs : List ℕ) → zs ≡ replicate n 0 → (i : ℕ) → get_or zs i 0 ≡ 0
zero-at n zs e i = ap (λ (z : List ℕ). get_or z i 0) e ∙ zeros-at n i

zero-length : (n : ℕ) (zs : List ℕ) → zs ≡ replicate n 0 → length zs ≡ n
zero-length n zs e = ap length e ∙ length-replicate {A = ℕ} n 0

-- u and v were zero, n words and k times as many; what a walk of four trees of k levels leaves there
module _ (k : ℕ) (stream : Stream) (n : ℕ) (roots nodes : List ℕ) (loaded : (l : ℕ) → l < 4 → lane_bytes l 8 nodes ≡ part (l * 32) 32 roots) (zs : List ℕ) (zero : zs ≡ replicate n 0) where
  -- the first len bytes of lane l of u
  pub u-walked : (u : List ℕ) → u ≡ xor_each zs (u_word (word_of stream) k nodes) → (len l : ℕ) → len % 4 ≡ 0 → len ≤ n → l < 4
      → lane_bytes l (len / 4) (take len u) ≡ u_of k (byte_of stream) len (root_of roots l)
  unfolding u_of key_in
  u-walked u made len l whole fits hl =
      let byte : ℕ → ℕ = λ x. u_at k (key_in l nodes) (λ y leaf. byte_of stream x leaf) in
      lane-is l (len / 4) (take len u) (tabulate len byte) (tabulate-length len byte ∙ omega arith)
      (λ x h.
      let h' : x < len = omega arith in
      let here : 4 * (x / 4) + l < len = omega arith in
      ap (λ (w : ℕ). get_or (bytes 4 w) (x % 4) 0)
      (get_or-take len u (4 * (x / 4) + l) 0 here
      ∙ zeros-sum zs u (u_word (word_of stream) k nodes) (zero-at n zs zero) made (4 * (x / 4) + l) (omega (arith, zero-length n zs zero)))
      ∙ u-lane stream k nodes l x hl
      ∙ sym (tabulate-at len byte x h'))
      ∙ ap (u_of k (byte_of stream) len) (loaded l hl)

  -- and of column b of v
  pub column-walked : (ys v : List ℕ) → ys ≡ replicate (k * n) 0 → v ≡ xor_each ys (column_word (word_of stream) (length zs) k nodes)
      → (len l b : ℕ) → len % 4 ≡ 0 → len ≤ n → l < 4 → b < k
      → lane_bytes l (len / 4) (part (b * n) len v) ≡ receiver_column k (byte_of stream) len (root_of roots l) b
  unfolding receiver_column key_in
  column-walked ys v zero₂ made len l b whole fits hl hb =
      let byte : ℕ → ℕ = λ x. receiver_at k (key_in l nodes) (λ y leaf. byte_of stream x leaf) b in
      lane-is l (len / 4) (part (b * n) len v) (tabulate len byte) (tabulate-length len byte ∙ omega arith)
      (λ x h.
      let h' : x < len = omega arith in
      let here : 4 * (x / 4) + l < len = omega arith in
      ap (λ (w : ℕ). get_or (bytes 4 w) (x % 4) 0)
      (part_at (b * n) len v (4 * (x / 4) + l) here
      ∙ zeros-sum ys v (column_word (word_of stream) (length zs) k nodes) (zero-at (k * n) ys zero₂) made (b * n + (4 * (x / 4) + l))
      (omega (arith, place-fits b k n hb, zero-length (k * n) ys zero₂))
      ∙ ap (λ (m : ℕ). column_word (word_of stream) m k nodes (b * n + (4 * (x / 4) + l))) (zero-length n zs zero))
      ∙ column-lane stream n k nodes b l x hl (omega arith)
      ∙ sym (tabulate-at len byte x h'))
      ∙ ap (λ (r : List ℕ). receiver_column k (byte_of stream) len r b) (loaded l hl)

-- the columns of a tree
pub columns-length : (k : ℕ) (stream : ℕ → List ℕ → ℕ) (len : ℕ) (root : List ℕ) → length (concat k (receiver_column k stream len root)) ≡ k * len
columns-length k stream len root = concat-length (receiver_column k stream len root) len k (λ b h. receiver_column-length k stream len root b)

-- from the roots of four trees that begin at tree i, what belongs to them
pub roots-from : (f : List ℕ → List ℕ) (i : ℕ) (roots : List ℕ)
    → concat 4 (λ j. f (root_of (part (i * 32) ((i + 4) * 32 - i * 32) roots) j)) ≡ concat 4 (λ j. f (root_of roots (i + j)))
roots-from f i roots =
    concat-same 4 (λ j. f (root_of (part (i * 32) ((i + 4) * 32 - i * 32) roots) j)) (λ j. f (root_of roots (i + j)))
    (λ j h. ap f (place-part i 4 j 32 roots h))

-- ---- the sums u go one after the other into choices and correction

concat-next : (l : ℕ) (f : ℕ → List ℕ) → concat (l + 1) f ≡ concat l f ++ f l
unfolding concat
concat-next l f = ap (λ (n : ℕ). concat n f) (add-one l)

-- one lane more
pub handed-next : (f : ℕ → List ℕ) (m l i : ℕ) (xs ys zs : List ℕ) → ((l : ℕ) → length (f l) ≡ m) → (i + 4) * m ≤ length xs → l < 4
    → ys ≡ put xs (i * m) (concat l f) → zs ≡ put ys ((i + l) * m) (f l) → zs ≡ put xs (i * m) (concat (l + 1) f)
handed-next f m l i xs ys zs each fits lt had more =
    let long : length (concat l f) ≡ l * m = concat-length f m l (λ j h. each j) in
    let place : (i + l) * m ≡ i * m + length (concat l f) = add-mul i l m ∙ ap (λ (n : ℕ). i * m + n) (sym long) in
    let low : i + l ≤ i + 4 = omega arith in
    more
    ∙ ap₂ (λ (y : List ℕ) (a : ℕ). put y a (f l)) had place
    ∙ put-put xs (concat l f) (f l) (i * m) (omega (arith, place, mul-le-mul_right m low, fits))
    ∙ ap (put xs (i * m)) (sym (concat-next l f))

-- tree 0's goes into the choices
pub handed-first : (choices correction s : List ℕ) (i m : ℕ) → i ≡ 0 → length s ≡ length choices → s ++ correction ≡ put (choices ++ correction) (i * m) s
unfolding put
handed-first choices correction s i m e long =
    let none : 0 ≡ i * m = omega (arith, ap (λ (j : ℕ). j * m) e) in
    let end : length choices ≡ 0 + length s = omega (arith, long) in
    ap (λ (r : List ℕ). s ++ r) (sym (drop-append_seam choices correction) ∙ ap (λ (n : ℕ). drop n (choices ++ correction)) end)
    ∙ ap (λ (n : ℕ). take n (choices ++ correction) ++ (s ++ drop (n + length s) (choices ++ correction))) none

-- and that of any other into the correction
pub handed-later : (choices correction s : List ℕ) (i m : ℕ) → (i ≡ 0 → ⊥) → length choices ≡ m → length s ≡ m
    → choices ++ put_mid (i * m - m) (i * m - (i * m - m)) correction s ≡ put (choices ++ correction) (i * m) s
unfolding put
handed-later choices correction s i m ne long size =
    let one = one-fits i m (not_first i ne) in
    let at : length choices + (i * m - m) ≡ i * m = omega (arith, long) in
    let end : (i * m - m) + (i * m - (i * m - m)) ≡ i * m = omega arith in
    let after : length choices + i * m ≡ i * m + length s = omega (arith, long, size) in
    sym (append_assoc choices (take (i * m - m) correction) (s ++ drop (i * m - (i * m - m)) (drop (i * m - m) correction)))
    ∙ ap₂ (λ (x y : List ℕ). x ++ (s ++ y))
    (sym (take-append-add choices correction (i * m - m)) ∙ ap (λ (n : ℕ). take n (choices ++ correction)) at)
    (drop-drop (i * m - (i * m - m)) (i * m - m) correction
    ∙ ap (λ (n : ℕ). drop n correction) end
    ∙ sym (drop-append-add choices correction (i * m))
    ∙ ap (λ (n : ℕ). drop n (choices ++ correction)) after)

-- the next c of n lists laid over their places
pub laid-put : (n m : ℕ) (f : ℕ → List ℕ) (i c : ℕ) (xs ys zs : List ℕ) → zs ≡ concat c (λ j. f (i + j)) → ((j : ℕ) → j < n → length (f j) ≡ m)
    → i + c ≤ n → ys ≡ put xs (i * m) zs → Laid n m f i xs → Laid n m f (i + c) ys
unfolding put
laid-put n m f i c xs ys zs made each fits laid had =
    let size : length zs ≡ c * m = ap length made ∙ concat-length (λ j. f (i + j)) m c (λ j h. each (i + j) (omega arith)) in
    let back : length zs ≡ (i + c) * m - i * m = omega (arith, size, add-mul i c m) in
    subst (Laid n m f (i + c))
    (sym
    (laid
    ∙ ap (λ (r : List ℕ). take (i * m) xs ++ (zs ++ r))
    (sym (drop-drop (length zs) (i * m) xs) ∙ ap (λ (n : ℕ). drop n (drop (i * m) xs)) back)))
    (laid_more n m f i c xs zs made each fits had)

one : (i : ℕ) → 1 + i ≡ suc i
one i = omega arith

concat-front : (c : ℕ) (f : ℕ → List ℕ) → concat (1 + c) f ≡ f 0 ++ concat c (λ i. f (suc i))
unfolding concat
concat-front c f =
    concat-add 1 c f
    ∙ ap (λ (x : List ℕ). f 0 ++ x) (concat-same c (λ i. f (1 + i)) (λ i. f (suc i)) (λ i h. ap f (one i)))

-- choices and correction apart
pub choices-are : (f : ℕ → List ℕ) (n m : ℕ) (choices correction : List ℕ) → 0 < n → ((i : ℕ) → length (f i) ≡ m) → length choices ≡ m
    → choices ++ correction ≡ concat n f → (choices ≡ f 0) × (correction ≡ concat (n - 1) (λ i. f (suc i)))
choices-are f n m choices correction some each long made =
    let whole : n ≡ 1 + (n - 1) = omega arith in
    let split = made ∙ ap (λ (j : ℕ). concat j f) whole ∙ concat-front (n - 1) f in (
      sym (take_at choices correction m long) ∙ ap (take m) split ∙ take_at (f 0) (concat (n - 1) (λ i. f (suc i))) m (each 0),
      sym (drop_at choices correction m long) ∙ ap (drop m) split ∙ drop_at (f 0) (concat (n - 1) (λ i. f (suc i))) m (each 0),
    )

-- ---- the choices are added to n sums u

pub corrections-made : (n len : ℕ) (f : ℕ → List ℕ) → ((i : ℕ) → length (f i) ≡ len) → (choices correction u₀ : List ℕ) → choices ≡ u₀ → length u₀ ≡ len
    → correction ≡ concat n f
    → concat n (λ i. xor_list (part (i * length choices) (length choices) correction) choices) ≡ concat n (λ i. xor_list (f i) u₀)
corrections-made n len f each choices correction u₀ chosen long sums =
    concat-same n (λ i. xor_list (part (i * length choices) (length choices) correction) choices) (λ i. xor_list (f i) u₀)
    (λ i h.
    ap (λ (m : ℕ). xor_list (part (i * m) m correction) choices) (ap length chosen ∙ long)
    ∙ ap (λ (l : List ℕ). xor_list (part (i * len) len l) choices) sums
    ∙ ap (λ (l : List ℕ). xor_list l choices) (concat-part f len n (λ j lt. each j) i h)
    ∙ ap (λ (l : List ℕ). xor_list (f i) l) chosen)
