-- The text by cases, and that 512 bytes hold it. Assumes nothing.
use mathlib.Core.Path.{◌≡◌, refl, ap, ◌∙◌}
use mathlib.Core.Bool.{Bool, true, false, cond}
use mathlib.Core.List.{List, [], ◌++◌}
use Prim.Native.Nat.{ℕ, zero, suc, ◌+◌, ◌-◌, ◌*◌, ◌^◌, ◌≤◌, ◌<◌}
use Prim.Native.String.{String}
use native.Mathlib.Nat.{suc-mul}
use native.Mathlib.Omega.{arith}
use native.Mathlib.Decide.{dec_lt}
use lib.ListN.{length, drop, replicate, length-append, length-take, length-drop}
use borrow.Author.Tests.{lt-ltb, le-ltb}
use Rattle.words.specs.Bytes.{part, put, concat}
use Rattle.sha256.specs.Sha.{digest_of}
use Rattle.sha256.proofs.Digests.{digest-length}
use Rattle.sha256.proofs.Blocks.{put_next, drop-zeros}
use Rattle.sizes.proofs.Widths.{width_fits}
use Rattle.answer.specs.Answer.{number, is_done, when_done}
use Rattle.answer.proofs.Order.{new-when, old-when}
use Rattle.batchfile.specs.declared.FileHead.{FileHead}
use Rattle.batchfile.specs.File.{count_of, length_at, place_at, present, entry_of, body_of, head_of, read_answer, Taken, longest_file}
use Rattle.batchfile.proofs.Reading.{done-taken}
use Rattle.batchfile.proofs.Taken.{taken-tells, longest}
use Rattle.filetext.specs.Text.{codes, decimal, hex_of, named, head_line, digest_line, body_line, refused_line, line_at, body_lines, text_of}
use Rattle.filetext.proofs.Digits.{decimal-length, decimal-most, hex-length}

-- ---- by cases

module _ (input : List ℕ) where
  file_text : List ℕ
  file_text = when_done (read_answer input) (head_line (head_of input) ++ body_lines input) (refused_line (number (read_answer input)))

  pub text-long : longest_file < length input → text_of input ≡ codes "too long\n"
  unfolding text_of file_text
  text-long h = ap (λ (b : Bool). cond b (codes "too long\n") file_text) (lt-ltb longest_file (length input) h)

  text-short : length input ≤ longest_file → text_of input ≡ file_text
  unfolding text_of file_text
  text-short h = ap (λ (b : Bool). cond b (codes "too long\n") file_text) (le-ltb longest_file (length input) h)

  -- no file that is taken is too long
  pub text-taken : Taken input → text_of input ≡ head_line (head_of input) ++ body_lines input
  unfolding file_text
  text-taken taken = text-short (longest input taken) ∙ new-when (read_answer input) _ _ (ap is_done taken)

  pub text-refused : length input ≤ longest_file → is_done (read_answer input) ≡ false → text_of input ≡ refused_line (number (read_answer input))
  unfolding file_text
  text-refused h e = text-short h ∙ old-when (read_answer input) _ _ e

-- ---- the lengths of the lines

-- a number of up to n digits after its name
named-length : (name : String) (n x : ℕ) → 1 ≤ n → x < 10 ^ n → length (named name x) ≤ length (codes name) + n
named-length name n x one h = omega (arith, length-append (codes name) (decimal x), decimal-length 20 n x one h)

named-most : (name : String) (x : ℕ) → length (named name x) ≤ length (codes name) + 20
named-most name x = omega (arith, length-append (codes name) (decimal x), decimal-most 20 x)

head-length : (head : FileHead) → head.width < 10 → head.blocks < 100 → length (head_line head) ≤ 45
unfolding head_line
head-length head w b =
    let batch : List ℕ = named " batch " head.batch in
    let blocks : List ℕ = named " blocks " head.blocks in
    let width : List ℕ = named "width " head.width in
    omega (
      arith,
      length-append width (blocks ++ (batch ++ codes "\n")),
      length-append blocks (batch ++ codes "\n"),
      length-append batch (codes "\n"),
      named-length "width " 1 head.width (omega arith) w,
      named-length " blocks " 2 head.blocks (omega arith) b,
      named-most " batch " head.batch,
    )

digest-end : (body : List ℕ) → length (digest_line body) ≡ 73
unfolding digest_line
digest-end body =
    let digest : List ℕ = hex_of (digest_of body) in
    omega (
      arith,
      length-append (codes " sha256 ") (digest ++ codes "\n"),
      length-append digest (codes "\n"),
      hex-length (digest_of body),
      digest-length body,
    )

body-length : (kind : ℕ) (body : List ℕ) → kind < 10 → length body < 100000 → length (body_line kind body) ≤ 92
unfolding body_line
body-length kind body k b =
    let size : List ℕ = named " length " (length body) in
    omega (
      arith,
      length-append (named "kind " kind) (size ++ digest_line body),
      length-append size (digest_line body),
      named-length "kind " 1 kind (omega arith) k,
      named-length " length " 5 (length body) (omega arith) b,
      digest-end body,
    )

refused-length : (number : ℕ) → length (refused_line number) ≤ 29
unfolding refused_line
refused-length number =
    omega (arith, length-append (named "refused " number) (codes "\n"), named-most "refused " number)

-- ---- the length of the text

-- lists of at most m elements
concat-most : (f : ℕ → List ℕ) (m n : ℕ) → ((i : ℕ) → i < n → length (f i) ≤ m) → length (concat n f) ≤ n * m
unfolding concat
concat-most f m zero each = omega arith
concat-most f m (suc n) each =
    let before = concat-most f m n (λ i h. each i (omega arith)) in
    omega (arith, length-append (concat n f) (f n), before, each n (omega arith), suc-mul n m)

-- a body is no longer than its file
body-within : (file : List ℕ) (kind : ℕ) → length (body_of file kind) ≤ length file
unfolding body_of
body-within file kind =
    let e : ℕ = entry_of (count_of file) kind in
    here (present (count_of file) kind) (place_at file e) (length_at file e)
  where
    here : (b : Bool) (a n : ℕ) → length (cond b (part a n file) []) ≤ length file
    here true a n = omega (arith, length-take n (drop a file), length-drop a file)
    here false a n = omega arith

bodies-length : (file : List ℕ) → length file < 100000 → length (body_lines file) ≤ 460
unfolding body_lines
bodies-length file h =
    concat-most (line_at file) 92 5
    (λ i lt. body-length (i + 1) (body_of file (i + 1)) (omega arith) (omega (arith, body-within file (i + 1))))

-- at most 45 bytes for the head, and 92 for each body
pub text-fits : (input : List ℕ) → length (text_of input) ≤ 512
text-fits input = here (dec_lt longest_file (length input)) (is_done (read_answer input)) refl
  where
    here : Dec (longest_file < length input) → (b : Bool) → is_done (read_answer input) ≡ b → length (text_of input) ≤ 512
    here (yes h) b e = rw (text-long input h) (omega arith)
    here (no h) true e =
        let told = (taken-tells input (done-taken input e)).values in
        let width = (width_fits (head_of input).width told.width-right).low in
        let blocks = told.few in
        rw (text-taken input (done-taken input e))
        (omega (
          arith,
          length-append (head_line (head_of input)) (body_lines input),
          head-length (head_of input) (omega arith) (omega arith),
          bodies-length input (omega arith),
        ))
    here (no h) false e = rw (text-refused input (omega arith) e) (omega (arith, refused-length (number (read_answer input))))

-- ---- over zeros

-- over zeros a range has those that are left after it
pub put-zeros : (n : ℕ) (l : List ℕ) → length l ≤ n → put (replicate n 0) 0 l ≡ l ++ replicate (n - length l) 0
put-zeros n l h = put_next [] (replicate n 0) l 0 refl ∙ ap (λ (r : List ℕ). l ++ r) (drop-zeros (length l) n h)
