-- What writing that is done tells of what it was given. Assumes nothing.
use mathlib.Core.Path.{◌≡◌}
use mathlib.Core.Bool.{true}
use mathlib.Core.List.{[], ◌∷◌}
use Prim.Native.Nat.{ℕ}
use native.Mathlib.Omega.{arith}
use lib.ListN.{length}
use borrow.Author.Tests.{eqb-true, eq-eqb}
use Rattle.answer.specs.Answer.{Done, is_done}
use Rattle.answer.proofs.Order.{AllHold, all_hold, hold-more, done-when}
use Rattle.sizes.specs.Sizes.{head_length}
use Rattle.rules.specs.Orders.{has}
use Rattle.rules.proofs.Fits.{file-fits, file-holds}
use Rattle.batchfile.specs.declared.FileHead.{FileHead}
use Rattle.batchfile.specs.Laid.{head_bytes, Bodies, has_setup}
use Rattle.batchfile.proofs.Batch.{Allowed, values_for, head_bytes-length, laid-size}
use Rattle.filewriter.specs.Write.{file_of, length_of, write_order, write_answer}

-- the exact length is that of the file
pub file-long : (h : FileHead) (b : Bodies) → Allowed h b → length (file_of h b) ≡ length_of h b
file-long h b a =
    omega (arith, laid-size (head_bytes head_length h) b, head_bytes-length head_length h (omega arith), a.correction-long, a.key-long, a.check-long)

-- nothing refuses the values and the bodies, and the file has its length
pub record WriteTells (h : FileHead) (b : Bodies) (file : ℕ) : Type 0 where
  pub allowed : Allowed h b
  pub exact : file ≡ length_of h b

pub write-tells : (h : FileHead) (b : Bodies) (file : ℕ) → is_done (write_answer h b file) ≡ true → WriteTells h b file
unfolding write_answer
write-tells h b file done =
    let all = all_hold (write_order h b file) done in
    record {
      allowed = file-fits _ _ _ _ _ _ _ _ _ (all.0, (all.1.0, (all.1.1.0, (all.1.1.1.0, (all.1.1.1.1.0, tt)))));
      exact = eqb-true file (length_of h b) all.1.1.1.1.1.0;
    }

-- and then it is done
pub write_done : (h : FileHead) (b : Bodies) (file : ℕ) → WriteTells h b file → write_answer h b file ≡ Done
unfolding write_answer
write_done h b file t =
    let last : AllHold (has file (length_of h b) ∷ []) = (eq-eqb file (length_of h b) t.exact, tt) in
    done-when (write_order h b file)
    (hold-more (values_for h (has_setup b) b) (has file (length_of h b) ∷ []) (file-holds _ _ _ _ _ _ _ _ _ t.allowed) last)
