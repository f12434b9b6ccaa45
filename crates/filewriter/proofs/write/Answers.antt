use Rattle.std.proofs.Common.{◌≡◌, true, length, sym, ap, ◌∙◌, arith}
use Rattle.answer.specs.Answer.{is_done}
use Rattle.sizes.specs.Sizes.{head_length}
use Rattle.batchfile.specs.Laid.{head_bytes}
use Rattle.batchfile.proofs.Batch.{allowed-small, head_bytes-length}
use Rattle.filewriter.specs.Write.{file_of, write_answer, lent}
use Rattle.filewriter.proofs.Done.{file-long, write-tells}
use Rattle.filewriter.proofs.write.Goals as goal

pub lay_file-requires : goal.lay_file-requires
lay_file-requires c =
    let h = c.args.head in
    let b = lent c.args.bodies in
    let file = c.args.file.now in
    let done : is_done (write_answer h b (length file)) ≡ true = ap is_done (sym c.write_answer.ensures ∙ c.in_ok-write_answer.was) in
    let told = write-tells h b (length file) done in
    let long : length file ≡ length (file_of h b) = told.exact ∙ sym (file-long h b told.allowed) in
    (long, omega (arith, long, allowed-small (head_bytes head_length h) h b (omega (arith, head_bytes-length head_length h (omega arith))) told.allowed))
