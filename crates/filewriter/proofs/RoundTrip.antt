-- Paper 02, note 4: what is written is read, what is read may be written, and a batch has one file with a long head. Assumes nothing.
use mathlib.Core.Path.{◌≡◌, refl, sym, ap, ap₂, ◌∙◌, subst}
use mathlib.Core.Bool.{Bool, true, false, cond}
use mathlib.Core.List.{[], ◌∷◌, ◌++◌}
use Prim.Native.Nat.{ℕ, ◌^◌, ◌<◌}
use native.Mathlib.Omega.{arith}
use lib.Dec.{eqb}
use lib.ListN.{length}
use Rattle.words.specs.Bytes.{Range, Bytes}
use Rattle.std.specs.Prelude.{Err}
use Rattle.answer.specs.declared.Refusal.TheVariants.{Length, Body}
use Rattle.answer.specs.Answer.{Answer, Done, is_done, when_done, Order, first_of}
use Rattle.answer.specs.Next.{next}
use Rattle.answer.proofs.Order.{new-when, all_hold, last-decides, first-refused, onward}
use Rattle.sizes.specs.Sizes.{head_length, entries_with}
use Rattle.rules.specs.Orders.{head_right}
use Rattle.batchfile.specs.declared.FileHead.{FileHead}
use Rattle.batchfile.specs.declared.Places.{Places}
use Rattle.batchfile.specs.File.{body_of, head_of, read_answer, Taken, no_head, head_found, places_found, body_between, ReadFile}
use Rattle.batchfile.specs.Laid.{head_bytes, Bodies, bodies_of, has_setup, file_with}
use Rattle.batchfile.proofs.Standing.{none_below}
use Rattle.batchfile.proofs.Bodies.{found-bodies}
use Rattle.batchfile.proofs.Batch.{Allowed, values_for, head_bytes-length, head-back, answer-laid, bodies-same}
use Rattle.batchfile.proofs.Again.{head-again, head_bytes_lem, same_count, taken-is-laid, taken-allowed, batch-fits}
use Rattle.batchfile.proofs.Witness.{Holds, laid-holds}
use Rattle.filewriter.specs.Write.{file_of, length_of, write_answer, WriteFile}
use Rattle.filewriter.specs.RoundTrip.{handed_out, LongHead, GivesBack, ReadsAs, WrittenReads, ReadBack, SameBytes, AbsentEmpty, AsTheReader, WrittenAgain}
use Rattle.filewriter.proofs.Done.{file-long, write-tells, write_done}

-- ---- what the reader's promise tells of a file that it takes

module _ (file : Range) (h : FileHead) (p : Places) (r : ReadFile file Done h p) where
  taken : Taken file
  taken = sym r.answered

  body_is : (kind : ℕ) → body_between file p kind ≡ body_of file kind
  body_is kind =
      ap (λ (q : Places). body_between file q kind) r.placed
      ∙ found-bodies file kind
      ∙ new-when (read_answer file) (body_of file kind) [] (ap is_done taken)

  head-is : h ≡ head_of file
  head-is = r.headed ∙ new-when (read_answer file) (head_of file) no_head (ap is_done taken)

  bodies-are : handed_out file p ≡ bodies_of file
  bodies-are = bodies-same (body_is 1) (body_is 3) (body_is 4) (body_is 5)

  -- its values and bodies may be written
  may_write : Allowed h (handed_out file p)
  may_write =
      subst (λ (x : FileHead). Allowed x (handed_out file p)) (sym head-is)
      (subst (λ (b : Bodies). Allowed (head_of file) b) (sym bodies-are) (taken-allowed file taken))

  module _ (bytes : Bytes file) where
    batch-small : h.batch < 2 ^ 64
    batch-small = rw head-is (batch-fits file taken bytes)

    -- with a long head it is the file of these
    taken-is-written : LongHead file p → file ≡ file_of h (handed_out file p)
    taken-is-written long =
        let ten : length (body_of file 2) ≡ head_length = sym (ap length (body_is 2)) ∙ long in
        let head : body_of file 2 ≡ head_bytes head_length (head_of file) =
        sym (head-again (body_of file 2) (head_bytes_lem file taken bytes) (omega arith)) ∙ ap (λ (n : ℕ). head_bytes n (head_of file)) ten in
        taken-is-laid file taken bytes
        ∙ ap (λ (s : Range). file_with s (bodies_of file)) head
        ∙ ap₂ file_of (sym head-is) (sym bodies-are)

-- ---- what is written

-- a file that holds values and bodies gives them back
gives_back : (h : FileHead) (b : Bodies) (file : Range) (answer : Answer) (head : FileHead) (p : Places) → Holds file head_length h b
    → ReadFile file answer head p → GivesBack h b file answer head p
gives_back h b file answer head p holds r =
    let done : answer ≡ Done = r.answered ∙ holds.taken in
    let r' : ReadFile file Done head p = subst (λ (a : Answer). ReadFile file a head p) done r in
    record {
      taken = done;
      long = ap length (body_is file head p r' 2) ∙ holds.head-long;
      same_head = head-is file head p r' ∙ holds.head-is;
      same-bodies = bodies-are file head p r' ∙ holds.bodies-are;
    }

-- so does the file of values and bodies that are allowed
written_back : (h : FileHead) (b : Bodies) → Allowed h b → h.batch < 2 ^ 64 → (file : Range) → file ≡ file_of h b → ReadsAs h b file
written_back h b a fits file made answer head p r =
    gives_back h b file answer head p
    (subst (λ (f : Range). Holds f head_length h b) (sym made) (laid-holds head_length refl h b fits a)) r

-- ---- the theorems

pub written-reads : WrittenReads
written-reads h b file file' fits w =
    written_back h b (write-tells h b (length file) (sym (ap is_done w.answered))).allowed fits file' w.written

-- writing what was read is done, and makes the file of it
write_again : (file : Range) (h : FileHead) (p : Places) → ReadFile file Done h p → (out out' : Range) (answer : Answer)
    → length out ≡ length_of h (handed_out file p) → WriteFile h (handed_out file p) out answer out'
    → (answer ≡ Done) × (out' ≡ file_of h (handed_out file p))
write_again file h p r out out' answer long w =
    let b : Bodies = handed_out file p in
    let done : answer ≡ Done = w.answered ∙ write_done h b (length out) (record { allowed = may_write file h p r; exact = long }) in
    (done, w.written ∙ ap (λ (a : Answer). when_done a (file_of h b) out) done)

pub read_back : ReadBack
read_back file h p bytes r out out' answer long w =
    let again = write_again file h p r out out' answer long w in
    (again.0, written_back h (handed_out file p) (may_write file h p r) (batch-small file h p r bytes) out' again.1)

pub same_bytes : SameBytes
same_bytes f g hf hg pf pg bf bg rf rg lf lg = (
  (λ e. (rf.headed ∙ ap head_found e ∙ sym rg.headed, ap₂ handed_out e (rf.placed ∙ ap places_found e ∙ sym rg.placed))),
  (λ e. taken-is-written f hf pf rf bf lf ∙ ap₂ file_of e.0 e.1 ∙ sym (taken-is-written g hg pg rg bg lg)),
)

pub absent-empty : AbsentEmpty
absent-empty file h p r = (
  (λ four. body_is file h p r 1 ∙ none_below file 1 (omega arith)),
  (λ none. sym (same_count file (taken file h p r)) ∙ ap (λ (s : Range). entries_with (length s)) (sym (body_is file h p r 1) ∙ none)),
)

-- one condition more, after those of an order
one_more : (cs : Order) (b : Bool) → first_of (cs ++ ((b, Length) ∷ [])) ≡ next (first_of cs) b Length
one_more cs b = here (is_done (first_of cs)) refl
  where
    here : (done : Bool) → is_done (first_of cs) ≡ done → first_of (cs ++ ((b, Length) ∷ [])) ≡ cond done (cond b Done (Err Length)) (first_of cs)
    here true e = last-decides cs b Length (all_hold cs e)
    here false e = first-refused cs ((b, Length) ∷ []) e

pub as-the-reader : AsTheReader
unfolding write_answer
as-the-reader h b narrow few fits small file file' answer answer' head p w r =
    let s : Range = head_bytes head_length h in
    let values = values_for h (has_setup b) b in
    let same : answer' ≡ first_of values =
    r.answered
    ∙ answer-laid s b small
    ∙ onward ((head_right (length s), Body) ∷ []) _ (ap head_right (head_bytes-length head_length h (omega arith)), tt)
    ∙ ap (λ (x : FileHead). first_of (values_for x (has_setup b) b)) (head-back head_length h narrow few fits) in
    w.answered
    ∙ one_more values (eqb (length file) (length_of h b))
    ∙ ap (λ (a : Answer). next a (eqb (length file) (length_of h b)) Length) (sym same)

pub written-again : WrittenAgain
written-again file h p bytes r long out out' answer same w =
    let whole : file ≡ file_of h (handed_out file p) = taken-is-written file h p r bytes long in
    let again = write_again file h p r out out' answer (same ∙ ap length whole ∙ file-long h (handed_out file p) (may_write file h p r)) w in
    (again.0, again.1 ∙ sym whole)
