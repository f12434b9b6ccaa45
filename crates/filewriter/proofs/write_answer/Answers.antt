use Rattle.std.proofs.Common.{◌≡◌, Bool, true, not, eqb, length, sym, ap, ◌∙◌}
use Rattle.words.specs.Bytes.{little_endian}
use Rattle.answer.specs.Answer.{Order, is_done, first_of}
use Rattle.answer.proofs.Order.{all_hold}
use Rattle.rules.specs.Orders.{file_order}
use Rattle.batchfile.specs.declared.FileHead.{FileHead}
use Rattle.rules.proofs.Fits.{file-fits, setup-most}
use Rattle.filewriter.proofs.write_answer.Goals as goal

-- the reader's rules hold
pub file_length-requires : goal.file_length-requires
file_length-requires c =
    let h : FileHead = c.args.head in
    let b = c.args.bodies in
    let key = b.key.now in
    let order : Bool → Order
    = λ there. file_order h.width h.batch h.blocks there (length b.setup.now) (length b.correction.now) (length key) (length b.check.now) (little_endian key) in
    let there : Bool = not (eqb (length b.setup.now) 0) in
    let done : is_done (first_of (order there)) ≡ true
    = sym (ap is_done (sym c.in_ok-answer.was ∙ c.answer.ensures ∙ ap (λ (t : Bool). first_of (order t)) c.is_there.ensures)) in
    let told =
    file-fits h.width h.batch h.blocks there (length b.setup.now) (length b.correction.now) (length key) (length b.check.now) (little_endian key)
    (all_hold (order there) done) in
    (told.width-right, told.few, setup-most (length b.setup.now) told.setup-long)
