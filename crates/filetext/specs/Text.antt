-- The text that the program "batchprint" prints of a batch on file. Paper 02, note 1. Assumes nothing.
use Rattle.std.specs.Prelude.{cond, [], ◌∷◌, ◌++◌, ℕ, zero, suc, ◌+◌, ◌/◌, ◌%◌, ltb, length, get_or}
use Prim.Native.Char.{code}
use Prim.Native.String.{String, [] as []ˢ, ◌∷◌ as ◌∷ˢ◌}
use Rattle.words.specs.Bytes.{Range, concat}
use Rattle.sha256.specs.Sha.{digest_of}
use Rattle.answer.specs.Answer.{number, when_done}
use Rattle.batchfile.specs.declared.FileHead.{FileHead}
use Rattle.batchfile.specs.File.{body_of, head_of, read_answer, longest_file}
use Rattle.foldtext.specs.Line.{hex_digits}

-- ---- characters, numbers and bytes

-- the codes of a text's characters
abbrev pub codes : (text : String) → Range
codes []ˢ = []
codes (c ∷ˢ text) = code c ∷ codes text

-- the decimal digits of a number below 10^n, the highest first, without leading zeros; 48 is the code of "0"
unfoldable pub decimal_digits : (n x : ℕ) → Range
decimal_digits zero x = []
decimal_digits (suc n) x = cond (ltb x 10) ((48 + x) ∷ []) (decimal_digits n (x / 10) ++ ((48 + x % 10) ∷ []))

-- a number of 64 bits is below 10^20
abbrev pub decimal : (x : ℕ) → Range
decimal x = decimal_digits 20 x

-- two lowercase hexadecimal digits for each byte
unfoldable pub hex_of : (s : Range) → Range
hex_of s = concat (length s) (λ i. hex_digits 2 (get_or s i 0))

-- ---- the lines

-- a number after its name
abbrev pub named : (name : String) (x : ℕ) → Range
named name x = codes name ++ decimal x

-- the head: "width 1 blocks 15 batch 7"
unfoldable pub head_line : (head : FileHead) → Range
head_line head =
    named "width " head.width ++ (named " blocks " head.blocks ++ (named " batch " head.batch ++ codes "\n"))

-- a body's digest, to the end of its line: " sha256 ", then 64 digits
unfoldable pub digest_line : (body : Range) → Range
digest_line body = codes " sha256 " ++ (hex_of (digest_of body) ++ codes "\n")

-- a body: "kind 4 length 8", and its digest
unfoldable pub body_line : (kind : ℕ) (body : Range) → Range
body_line kind body = named "kind " kind ++ (named " length " (length body) ++ digest_line body)

-- a refusal by its number: "refused 7"
unfoldable pub refused_line : (number : ℕ) → Range
refused_line number = named "refused " number ++ codes "\n"

-- ---- the text

-- a line for each of the five bodies, kinds 1 to 5
abbrev pub line_at : (file : Range) (i : ℕ) → Range
line_at file i = body_line (i + 1) (body_of file (i + 1))

unfoldable pub body_lines : (file : Range) → Range
body_lines file = concat 5 (line_at file)

-- what is printed of the bytes that were read: a file's head and bodies, its refusal, or that no file is so long
unfoldable pub text_of : (input : Range) → Range
text_of input =
    cond (ltb longest_file (length input)) (codes "too long\n")
    (when_done (read_answer input) (head_line (head_of input) ++ body_lines input) (refused_line (number (read_answer input))))
