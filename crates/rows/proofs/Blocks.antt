-- Laws of a block of 64 rows on its way: the place of a column's word, the words of all columns turned, and the rows laid. Assumes nothing.
use mathlib.Core.Path.{◌≡◌, refl, sym, ap, ◌∙◌}
use mathlib.Core.List.{List}
use Prim.Native.Nat.{ℕ, ◌+◌, ◌*◌, ◌/◌, ◌%◌, ◌≤◌, ◌<◌}
use native.Mathlib.Nat.{add-mul, mul_assoc, mul_comm}
use native.Mathlib.Omega.{arith}
use lib.ListN.{length, get_or}
use lib.Seq.{ext_get_or}
use Rattle.words.specs.Bytes.{Bytes, bytes, word64, part, concat}
use Rattle.words.specs.Bits.{bit_of, bit_at}
use Rattle.words.proofs.Below.{below}
use Rattle.words.proofs.Sums.{of_bits_is}
use Rattle.words.proofs.Lists.{tabulate-at}
use Rattle.words.proofs.Numbers.{word64-bit, bytes-bit}
use Rattle.words.proofs.Concat.{next_place, concat-length, concat-at, part_at}
use Rattle.tree.specs.Layout.{column_of}
use Rattle.rows.specs.Row.{row_of}
use Rattle.rows.specs.Place.{place_of, Stands}
use Rattle.rows.specs.Gather.{WeightsTurned, BytesTurned, column_words, side_by_side, Gathered, RowsLaid}
use Rattle.rows.proofs.RowLaws.{row_at, row-length}
use Rattle.rows.proofs.Places.{stands, number_is, bit-there}

-- ---- where a column's word stands, carried by a step: from column to column, and from eight columns to the next eight

pub step-on : (step at n : ℕ) → at + n * step + step ≡ at + (n + 1) * step
step-on step at n = omega (arith, next_place n step)

-- byte at + q of column 8k + b
from_is : (len at k b q : ℕ) → at + k * (8 * len) + b * len + q ≡ (8 * k + b) * len + (at + q)
from_is len at k b q =
    let p : k * (8 * len) ≡ 8 * k * len = sym (mul_assoc k 8 len) ∙ ap (λ (x : ℕ). x * len) (mul_comm k 8) in
    let e : (8 * k + b) * len ≡ 8 * k * len + b * len = add-mul (8 * k) b len in
    omega arith

-- ---- the words of the columns, turned

-- y is word 16r + k: at byte q, weight 2^b, it has the bit of byte q, weight 2^r of the word of column 8k + b
abbrev pub TurnedWord : (t : List ℕ) (len at k r y : ℕ) → Type 0
TurnedWord t len at k r y = (q b : ℕ) → q < 8 → b < 8 → bit_of y (8 * q + b) ≡ bit_of (word64 t (at + k * (8 * len) + b * len)) (8 * q + r)

pub turned-words : (t v v' : List ℕ) (len at k from : ℕ) → from ≡ at + k * (8 * len) → v ≡ column_words t len from → WeightsTurned v v'
    → (r : ℕ) → r < 8 → TurnedWord t len at k r (get_or v' r 0)
turned-words t v v' len at k from e words turned r hr q b hq hb =
    turned q r b hq hr hb
    ∙ ap (λ (y : ℕ). bit_of y (8 * q + r))
    (ap (λ (l : List ℕ). get_or l b 0) words ∙ tabulate-at 8 (λ b. word64 t (from + b * len)) b hb ∙ ap (λ (p : ℕ). word64 t (p + b * len)) e)

-- all of them are gathered: bytes and weights are the places of rows and columns
pub gathered : (t w : List ℕ) (len at : ℕ) → Bytes t → at + 8 ≤ len → ((k r : ℕ) → k < 16 → r < 8 → TurnedWord t len at k r (get_or w (16 * r + k) 0))
    → Gathered len t at w
gathered t w len at small fits turned j c q r k b hq hr hk hb row column =
    let x : ℕ = at + k * (8 * len) + b * len in
    let byte : 8 * x + (8 * q + r) ≡ 8 * (x + q) + r = omega arith in
    turned k r hk hr q b hq hb
    ∙ word64-bit t small x (8 * q + r) (omega arith)
    ∙ bit-there t (8 * x + (8 * q + r)) (x + q) r hr (ap place_of byte ∙ stands (x + q) r)
    ∙ ap (λ (i : ℕ). bit_of (get_or t i 0) r) (from_is len at k b q)
    ∙ ap (λ (y : ℕ). bit_of y r) (sym (part_at ((8 * k + b) * len) len t (at + q) (omega arith)))
    ∙ sym (bit-there (column_of len t (8 * k + b)) j (at + q) r hr row)
    ∙ ap (λ (c : ℕ). bit_at (column_of len t c) j) (sym (number_is c k b column))

-- ---- the rows, laid

-- eight words side by side
side-at : (w : List ℕ) (at c : ℕ) → c < 8 → get_or (side_by_side w at) c 0 ≡ get_or w (at + c) 0
side-at w at =
    below (λ (c : ℕ). get_or (side_by_side w at) c 0 ≡ get_or w (at + c) 0) 8
    ((((((((tt, ap (λ (p : ℕ). get_or w p 0) none), refl), refl), refl), refl), refl), refl), refl)
  where
    none : at ≡ at + 0
    none = omega arith

-- y is byte 8(16c + i) + x of the rows: its bits are those of byte c of word 8i + x
abbrev pub LaidByte : (w : List ℕ) (i c x y : ℕ) → Type 0
LaidByte w i c x y = (b : ℕ) → b < 8 → bit_of y b ≡ bit_of (get_or w (8 * i + x) 0) (8 * c + b)

pub laid-words : (w v : List ℕ) (i : ℕ) → BytesTurned (side_by_side w (8 * i)) v
    → (c x : ℕ) → c < 8 → x < 8 → LaidByte w i c x (get_or (bytes 8 (get_or v c 0)) x 0)
laid-words w v i turned c x hc hx b hb =
    bytes-bit 8 (get_or v c 0) x b hx hb ∙ turned c x b hc hx hb ∙ ap (λ (y : ℕ). bit_of y (8 * c + b)) (side-at w (8 * i) x hx)

pub rows-laid : (w rows : List ℕ) → ((i c x : ℕ) → i < 16 → c < 8 → x < 8 → LaidByte w i c x (get_or rows (8 * (16 * c + i) + x) 0)) → RowsLaid w rows
rows-laid w rows laid j c q r k b hq hr hk hb row column =
    let at : 16 * (8 * q + r) + k ≡ 8 * (16 * q + (2 * r + k / 8)) + k % 8 = omega arith in
    let back : 8 * (2 * r + k / 8) + k % 8 ≡ 16 * r + k = omega arith in
    let turn : (8 * q + r) * 16 + k ≡ 16 * (8 * q + r) + k = omega arith in
    ap (λ (j : ℕ). bit_at (part (j * 16) 16 rows) c) (number_is j q r row)
    ∙ bit-there (part ((8 * q + r) * 16) 16 rows) c k b hb column
    ∙ ap (λ (y : ℕ). bit_of y b) (part_at ((8 * q + r) * 16) 16 rows k hk ∙ ap (λ (p : ℕ). get_or rows p 0) (turn ∙ at))
    ∙ laid (2 * r + k / 8) q (k % 8) (omega arith) hq (omega arith) b hb
    ∙ ap (λ (n : ℕ). bit_of (get_or w n 0) (8 * q + b)) back

-- gathered words, laid, are the rows of the block, from the row on that stands at its byte
pub rows_are : (t w rows : List ℕ) (len at first : ℕ) → Gathered len t at w → RowsLaid w rows → length rows ≡ 1024 → Bytes rows
    → Stands first at 0 → rows ≡ concat 64 (λ i. row_of 128 len t (first + i))
rows_are t w rows len at first gathered laid e small here =
    ext_get_or 0 rows (concat 64 row) (e ∙ sym (concat-length row 16 64 each))
    (λ p hp.
    let back : p / 16 * 16 + p % 16 ≡ p = omega arith in
    sym (of_bits_is 8 (bits (p / 16) (p % 16)) (get_or rows p 0) (small p) (λ b hb. bit p b (omega arith) hb))
    ∙ sym (row_at 128 len t (first + p / 16) (p % 16) (omega arith))
    ∙ sym (concat-at row 16 64 each (p / 16) (p % 16) (omega arith) (omega arith))
    ∙ ap (λ (x : ℕ). get_or (concat 64 row) x 0) back)
  where
    row : ℕ → List ℕ
    row i = row_of 128 len t (first + i)

    each : (i : ℕ) → i < 64 → length (row i) ≡ 16
    each i h = row-length 128 len t (first + i)

    bits : (j k b : ℕ) → ℕ
    bits j k b = bit_at (column_of len t (8 * k + b)) (first + j)

    -- where row j stands, among those of the table and among those of the block
    in_table : (j : ℕ) → Stands (first + j) (at + j / 8) (j % 8)
    in_table j =
        let e : first + j ≡ 8 * (at + j / 8) + j % 8 = omega (arith, number_is first at 0 here) in
        ap place_of e ∙ stands (at + j / 8) (j % 8)

    in_block : (j : ℕ) → Stands j (j / 8) (j % 8)
    in_block j =
        let e : j ≡ 8 * (j / 8) + j % 8 = omega arith in
        ap place_of e ∙ stands (j / 8) (j % 8)

    bit : (p b : ℕ) → p < 1024 → b < 8 → bits (p / 16) (p % 16) b ≡ bit_of (get_or rows p 0) b
    bit p b hp hb =
        let j : ℕ = p / 16 in
        let k : ℕ = p % 16 in
        let there : j * 16 + k ≡ p = omega arith in
        sym (gathered (first + j) (8 * k + b) (j / 8) (j % 8) k b (omega arith) (omega arith) (omega arith) hb (in_table j) (stands k b))
        ∙ sym (laid j (8 * k + b) (j / 8) (j % 8) k b (omega arith) (omega arith) (omega arith) hb (in_block j) (stands k b))
        ∙ bit-there (part (j * 16) 16 rows) (8 * k + b) k b hb (stands k b)
        ∙ ap (λ (y : ℕ). bit_of y b) (part_at (j * 16) 16 rows k (omega arith) ∙ ap (λ (x : ℕ). get_or rows x 0) there)
