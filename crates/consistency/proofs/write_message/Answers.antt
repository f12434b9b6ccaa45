-- The choices' fold stands before the columns'.
use Rattle.std.proofs.Common.{ℕ, ◌+◌, ◌*◌, refl, ap, ◌∙◌, arith}
use Rattle.words.specs.Bytes.{bytes, put}
use Rattle.words.proofs.Parts.{after_front}
use Rattle.consistency.specs.Message.{check_message}
use Rattle.consistency.proofs.write_message.Goals as goal

pub returns : goal.returns
unfolding check_message
returns c =
    let a = c.args in
    after_front a.message.now _ _ _ _ 8 (8 + 8 * a.m)
    (c.store64.ensures ∙ ap (λ (x : ℕ). put a.message.now 0 (bytes 8 x)) c.fold.ensures)
    (c.fold_columns.ensures a.key c.table-t.ensures)
    refl (omega arith) (omega arith)
