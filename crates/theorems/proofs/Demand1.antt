-- Demand 1 holds of every call. Assumes nothing.
use mathlib.Core.Path.{◌≡◌, refl, sym, ap, ◌∙◌, subst}
use mathlib.Core.Bool.{true, false}
use mathlib.Core.List.{List, [], ◌∷◌}
use Prim.Native.Nat.{ℕ}
use lib.Dec.{eqb}
use Rattle.std.specs.Prelude.{Err}
use Rattle.answer.specs.declared.Refusal.TheVariants.{Check}
use Rattle.words.specs.Bytes.{Range}
use Rattle.answer.specs.Answer.{Answer, number, is_done, Order, first_of, Among, Numbered}
use Rattle.answer.proofs.Order.{old-when, cond-ap, each_refusal, member, unchecked, first-among, not-failed, not_done}
use Rattle.rules.specs.declared.Record.{Record}
use Rattle.rules.specs.Orders.{closed}
use Rattle.batchfile.specs.File.{head_found, places_found, read_order, read_answer}
use Rattle.filewriter.specs.Write.{write_answer}
use Rattle.host.specs.declared.FileRead.{FileRead}
use Rattle.host.specs.File.{file_read}
use Rattle.theorems.specs.Demand1.{Lent, ranges, session, Call, receiver-setup, sender-setup, open-session, receiver-start, sender-correct, receiver-answer, sender-verify, read-file, write-file, shut, Demand1}

-- a call that can't fail the check, and that leaves what it was lent where it isn't done. The tests of its order compute
plain : (ns : List ℕ) (cs : Order) (a : Answer) (before after : Lent) → a ≡ first_of cs → (is_done a ≡ false → after ≡ before)
    → each_refusal (λ x. member (0 ∷ ns) (number x)) cs ≡ true → unchecked cs ≡ true → Demand1 ns a before after
plain ns cs a before after e same listed u = record {
  ends = subst (Among (0 ∷ ns)) (sym e) (first-among ns cs listed);
  kept = λ ne. same (not_done a ne) ∙ sym (not-failed cs a (shut before) before u e);
}

pub demand1 : {refusals : List ℕ} {answer : Answer} {before after : Lent} → Call refusals answer before after → Demand1 refusals answer before after
unfolding read_answer write_answer
demand1 (receiver-setup {answer = a} p) =
    plain (1 ∷ 5 ∷ []) _ a _ _ p.answered (λ q. ap (λ (m : List ℕ). ranges (m ∷ [])) (p.written ∙ old-when a _ _ q)) refl refl
demand1 (sender-setup {answer = a} p) =
    plain (1 ∷ 5 ∷ []) _ a _ _ p.answered (λ q. ap (λ (m : List ℕ). ranges (m ∷ [])) (p.written ∙ old-when a _ _ q)) refl refl
demand1 (open-session {answer = a} p) =
    plain (1 ∷ []) _ a _ _ p.answered (λ q. ap (λ (r : Record). session r []) (p.recorded ∙ old-when a _ _ q)) refl refl
demand1 (receiver-start {answer = a} p) =
    plain (1 ∷ 2 ∷ 3 ∷ 4 ∷ 5 ∷ []) _ a _ _ p.answered
    (λ q i.
    session ((p.recorded ∙ old-when a _ _ q) i)
    ((p.chosen ∙ old-when a _ _ q) i ∷ (p.filled ∙ old-when a _ _ q) i ∷ (p.corrected ∙ old-when a _ _ q) i ∷ []))
    refl refl
demand1 (sender-correct {answer = a} p) =
    plain (1 ∷ 2 ∷ 3 ∷ 4 ∷ 5 ∷ []) _ a _ _ p.answered
    (λ q i. session ((p.recorded ∙ old-when a _ _ q) i) ((p.filled ∙ old-when a _ _ q) i ∷ [])) refl refl
demand1 (receiver-answer {answer = a} p) =
    plain (1 ∷ 2 ∷ 3 ∷ 4 ∷ 9 ∷ 5 ∷ []) _ a _ _ p.answered
    (λ q i. session ((p.recorded ∙ old-when a _ _ q) i) ((p.told ∙ old-when a _ _ q) i ∷ (p.padded ∙ old-when a _ _ q) i ∷ [])) refl refl
demand1 (sender-verify {r} {pads = pads} {answer = a} p) = record {
  ends = subst (Among (0 ∷ 1 ∷ 2 ∷ 3 ∷ 4 ∷ 9 ∷ 5 ∷ 6 ∷ [])) (sym p.answered) (first-among (1 ∷ 2 ∷ 3 ∷ 4 ∷ 9 ∷ 5 ∷ 6 ∷ []) _ refl);
  kept = λ ne.
      let q = not_done a ne in
      (λ i. session ((p.recorded ∙ old-when a _ _ q) i) ((p.padded ∙ old-when a _ _ q) i ∷ []))
      ∙ cond-ap (λ (x : Record). session x (pads ∷ [])) (eqb (number a) (number (Err Check))) (closed r) r;
}
demand1 (read-file {file = file} {answer = a} p) = plain (7 ∷ 8 ∷ 1 ∷ 3 ∷ 4 ∷ 8 ∷ 9 ∷ []) (read_order file) a _ _ p.answered (λ q. refl) refl refl
demand1 (write-file {answer = a} p) =
    plain (1 ∷ 3 ∷ 4 ∷ 8 ∷ 9 ∷ 5 ∷ []) _ a _ _ p.answered (λ q. ap (λ (m : List ℕ). ranges (m ∷ [])) (p.written ∙ old-when a _ _ q)) refl refl

-- what C is given back of a file is told by such a call
pub read-from-c : (file : Range) (x : FileRead) → x ≡ file_read file
    → Numbered (λ answer. Call (7 ∷ 8 ∷ 1 ∷ 3 ∷ 4 ∷ 8 ∷ 9 ∷ []) answer (ranges []) (ranges [])) x.answer
read-from-c file x e = record {
  answer = read_answer file;
  kept = read-file {file = file} {head = head_found file} {places = places_found file} (record { answered = refl; headed = refl; placed = refl });
  numbered = ap (λ (r : FileRead). r.answer) e;
}
