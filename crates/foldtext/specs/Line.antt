-- The line that the program "foldprint" prints. Paper 01, 'Edges'. Assumes nothing.
use Rattle.std.specs.Prelude.{◌≡◌, Bool, false, cond, List, [], ◌∷◌, ◌++◌, ℕ, zero, suc, ◌+◌, ◌-◌, ◌/◌, ◌%◌, leb, ltb, eqb, length, drop, replicate}
use Rattle.words.specs.Bytes.{word64}
use Rattle.gf64.specs.Field.{fold_bytes}
use Rattle.foldtext.specs.declared.text.Text.{Text}

-- 'a key, then 1 to 16 words, 8 bytes each, so 16 to 136 bytes in all, a multiple of 8'
unfoldable pub is_input : ℕ → Bool
is_input n = cond (leb 16 n) (cond (leb n 136) (eqb (n % 8) 0) false) false

-- a lowercase hexadecimal digit: 0 to 9, then a to f
abbrev pub hex_digit : ℕ → ℕ
hex_digit d = cond (ltb d 10) (48 + d) (87 + d)

-- the last n hexadecimal digits of a number, the highest first
unfoldable pub hex_digits : ℕ → ℕ → List ℕ
hex_digits zero x = []
hex_digits (suc n) x = hex_digits n (x / 16) ++ (hex_digit (x % 16) ∷ [])

-- 'the fold in 16 lowercase hexadecimal digits', and a newline
abbrev pub fold_line : ℕ → List ℕ
fold_line x = hex_digits 16 x ++ (10 ∷ [])

-- the line "refused"
abbrev pub refused_line : List ℕ
refused_line = 114 ∷ 101 ∷ 102 ∷ 117 ∷ 115 ∷ 101 ∷ 100 ∷ 10 ∷ []

-- what is printed for an input: the fold of the words after the key, or "refused"
unfoldable pub line_of : List ℕ → List ℕ
line_of s = cond (is_input (length s)) (fold_line (fold_bytes (word64 s 0) (drop 8 s))) refused_line

-- the code's text: these bytes, and zeros up to its n
pub record Holds {n : ℕ} (r : Text n) (l : List ℕ) : Type 0 where
  pub long : r.len ≡ length l
  pub bytes : r.bytes ≡ l ++ replicate (n - length l) 0
