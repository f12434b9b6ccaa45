-- Done is what the number 0 says, and no other number does: whatever refusals there are. Assumes nothing.
use Rattle.std.proofs.Common.{◌≡◌, refl, eqb, Ok, Err, arith}
use Rattle.answer.specs.Answer.{Answer, Done, number, is_done}

pub done-number : (a : Answer) → is_done a ≡ eqb (number a) (number Done)
done-number (Ok tt) = refl
done-number (Err x) = grind arith
