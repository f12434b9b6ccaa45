-- Laws of rows, of a table of m columns: their lengths, their bits, and how the rows of two tables differ by delta. Assumes nothing.
use mathlib.Core.Path.{◌≡◌, sym, ap, ap₂, ◌∙◌}
use mathlib.Core.List.{List}
use Prim.Native.Nat.{ℕ, ◌+◌, ◌*◌, ◌/◌, ◌%◌, ◌<◌}
use native.Mathlib.Omega.{arith}
use lib.ListN.{length, get_or}
use lib.Bits.{xor_lt}
use Rattle.words.specs.Bytes.{Bytes}
use Rattle.words.specs.Bits.{bit_of, bit_at, of_bits}
use Rattle.words.specs.Xor.{◌⊕◌, xor_list, scale}
use Rattle.words.proofs.Xor.{bit-lt, bit-xor}
use Rattle.words.proofs.Sums.{of_bits-lt, of_bits-bit, of_bits_is, bit-scale}
use Rattle.words.proofs.Lists.{tabulate-length, tabulate-at, tabulate-lt, xor_each-is, scale_at, scale-bytes}
use Rattle.tree.specs.Layout.{column_of}
use Rattle.rows.specs.Row.{row_of}
use Rattle.rows.proofs.Places.{stands, bit-there}

pub row-length : (m len : ℕ) (table : List ℕ) (j : ℕ) → length (row_of m len table j) ≡ m / 8
unfolding row_of
row-length m len table j = tabulate-length (m / 8) _

pub row-bytes : (m len : ℕ) (table : List ℕ) (j : ℕ) → Bytes (row_of m len table j)
unfolding row_of
row-bytes m len table j = tabulate-lt (m / 8) 256 _ (omega arith) (λ q. of_bits-lt 8 _ (λ b. bit-lt _ _))

-- byte q of a row
pub row_at : (m len : ℕ) (table : List ℕ) (j q : ℕ) → q < m / 8
    → get_or (row_of m len table j) q 0 ≡ of_bits 8 (λ b. bit_at (column_of len table (8 * q + b)) j)
unfolding row_of
row_at m len table j q h = tabulate-at (m / 8) _ q h

byte-bit : (m len : ℕ) (table : List ℕ) (j q b : ℕ) → q < m / 8 → b < 8
    → bit_of (get_or (row_of m len table j) q 0) b ≡ bit_at (column_of len table (8 * q + b)) j
byte-bit m len table j q b hq hb =
    ap (λ (x : ℕ). bit_of x b) (row_at m len table j q hq)
    ∙ of_bits-bit 8 (λ b. bit_at (column_of len table (8 * q + b)) j) (λ b. bit-lt _ _) b hb

-- bit c of row j is bit j of column c
pub row-bit : (m len : ℕ) (table : List ℕ) (j c : ℕ) → c / 8 < m / 8 → bit_at (row_of m len table j) c ≡ bit_at (column_of len table c) j
row-bit m len table j c h =
    let back : 8 * (c / 8) + c % 8 ≡ c = omega arith in
    byte-bit m len table j (c / 8) (c % 8) h (omega arith)
    ∙ ap (λ (c : ℕ). bit_at (column_of len table c) j) back

-- where each column of w is that of v, or that with delta's bit added where d is 1, each row of w is that of v, with delta added
pub row-sum : (m len j d : ℕ) (v w delta : List ℕ) → d < 2 → Bytes delta
    → ((c : ℕ) → c < m → bit_at (column_of len w c) j ≡ bit_at (column_of len v c) j ⊕ (bit_at delta c * d))
    → row_of m len w j ≡ xor_list (row_of m len v j) (scale d delta)
row-sum m len j d v w delta hd small same =
    xor_each-is (row_of m len v j) (row_of m len w j) (λ q. get_or (scale d delta) q 0) (row-length m len w j ∙ sym (row-length m len v j))
    (λ q lt. let lt' : q < m / 8 = omega (arith, row-length m len v j) in row_at m len w j q lt' ∙ byte q lt')
  where
    bits : (q b : ℕ) → q < m / 8 → b < 8
        → bit_at (column_of len w (8 * q + b)) j ≡ bit_of (get_or (row_of m len v j) q 0 ⊕ get_or (scale d delta) q 0) b
    bits q b hq hb =
        same (8 * q + b) (omega arith)
        ∙ ap₂ ◌⊕◌ (sym (byte-bit m len v j q b hq hb))
        (ap (λ (x : ℕ). x * d) (bit-there delta (8 * q + b) q b hb (stands q b))
        ∙ sym (bit-scale d (get_or delta q 0) b hd)
        ∙ ap (λ (x : ℕ). bit_of x b) (sym (scale_at d delta q)))
        ∙ sym (bit-xor (get_or (row_of m len v j) q 0) (get_or (scale d delta) q 0) b)

    byte : (q : ℕ) → q < m / 8
        → of_bits 8 (λ b. bit_at (column_of len w (8 * q + b)) j) ≡ get_or (row_of m len v j) q 0 ⊕ get_or (scale d delta) q 0
    byte q hq =
        of_bits_is 8 (λ b. bit_at (column_of len w (8 * q + b)) j) (get_or (row_of m len v j) q 0 ⊕ get_or (scale d delta) q 0)
        (xor_lt 8 (get_or (row_of m len v j) q 0) (get_or (scale d delta) q 0) (row-bytes m len v j q) (scale-bytes d delta hd small q))
        (λ b hb. bits q b hq hb)
