-- Digits one after the other, and inputs. Assumes nothing.
use mathlib.Core.Path.{◌≡◌, refl, sym, ap, ap₂, ◌∙◌}
use mathlib.Core.Bool.{Bool, true, false, cond, false≢true}
use mathlib.Core.List.{List, [], ◌∷◌, ◌++◌, append_assoc, append-nil}
use Prim.Native.Nat.{ℕ, zero, suc, ◌-◌, ◌/◌, ◌%◌, ◌<◌, ◌≤◌}
use native.Mathlib.Omega.{arith}
use lib.Dec.{leb, eqb}
use lib.ListN.{replicate, length, drop, set, take, length-take, length-append, length-set}
use lib.Seq.{take-append_seam, drop-cons, drop-set-lt, get_or-set_same}
use borrow.Author.Tests.{leb-true}
use Rattle.foldtext.specs.declared.text.Text.{Text}
use Rattle.foldtext.specs.Line.{is_input, hex_digit, hex_digits, fold_line, refused_line, line_of, Holds}
use Rattle.words.specs.Bytes.{word64}
use Rattle.gf64.specs.Field.{fold_bytes}

-- one digit more: the digits before place i, and what stands from it on
pub digit-more : (j x v : ℕ) (out : List ℕ) → j < length out → v ≡ hex_digit (x % 16)
    → hex_digits j (x / 16) ++ drop j (set out j v) ≡ hex_digits (suc j) x ++ drop (suc j) out
unfolding hex_digits
digit-more j x v out h e =
    ap (λ (l : List ℕ). hex_digits j (x / 16) ++ l)
    (drop-cons (set out j v) j 0 (omega (arith, length-set out j v))
    ∙ ap₂ (λ (a : ℕ) (r : List ℕ). a ∷ r) (get_or-set_same out j v 0 h ∙ e) (drop-set-lt (suc j) out j v (omega arith)))
    ∙ sym (append_assoc (hex_digits j (x / 16)) (hex_digit (x % 16) ∷ []) (drop (suc j) out))

hex_digits-length : (n x : ℕ) → length (hex_digits n x) ≡ n
unfolding hex_digits
hex_digits-length zero x = refl
hex_digits-length (suc n) x =
    length-append (hex_digits n (x / 16)) (hex_digit (x % 16) ∷ []) ∙ omega (arith, hex_digits-length n (x / 16))

pub fold_line-length : (x : ℕ) → length (fold_line x) ≡ 17
fold_line-length x = length-append (hex_digits 16 x) (10 ∷ []) ∙ omega (arith, hex_digits-length 16 x)

-- an input has a key
pub input_long : (n : ℕ) → is_input n ≡ true → 16 ≤ n
unfolding is_input
input_long n e = here (leb 16 n) refl e
  where
    here : (b : Bool) → leb 16 n ≡ b → cond b (cond (leb n 136) (eqb (n % 8) 0) false) false ≡ true → 16 ≤ n
    here true q r = leb-true 16 n q
    here false q r = absurd (false≢true r)

-- ---- the line by cases

pub line-input : (s : List ℕ) → is_input (length s) ≡ true → line_of s ≡ fold_line (fold_bytes (word64 s 0) (drop 8 s))
unfolding line_of
line-input s e = ap (λ (b : Bool). cond b (fold_line (fold_bytes (word64 s 0) (drop 8 s))) refused_line) e

pub line_other : (s : List ℕ) → is_input (length s) ≡ false → line_of s ≡ refused_line
unfolding line_of
line_other s e = ap (λ (b : Bool). cond b (fold_line (fold_bytes (word64 s 0) (drop 8 s))) refused_line) e

-- a line of 17 bytes leaves no room
pub whole-line : (l : List ℕ) → length l ≡ 17 → l ≡ l ++ replicate (17 - length l) 0
whole-line l e =
    sym (ap (λ (n : ℕ). l ++ replicate (17 - n) 0) e ∙ append-nil l)

-- ---- a text starts with its line

pub holds-line : {n : ℕ} (r : Text n) (l : List ℕ) → Holds r l → take r.len r.bytes ≡ l
holds-line {n} r l h =
    ap₂ (λ (m : ℕ) (b : List ℕ). take m b) h.long h.bytes ∙ take-append_seam l (replicate (n - length l) 0)

pub holds-counted : {n : ℕ} (r : Text n) (l : List ℕ) → Holds r l → r.len ≡ length (take r.len r.bytes)
holds-counted r l h = h.long ∙ sym (ap length (holds-line r l h))

pub holds-within : {n : ℕ} (r : Text n) (l : List ℕ) → Holds r l → r.len ≤ length r.bytes
holds-within r l h = omega (arith, holds-counted r l h, length-take r.len r.bytes)
