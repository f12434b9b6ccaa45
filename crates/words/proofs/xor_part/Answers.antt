use Rattle.std.proofs.Common.{length, refl}
use Rattle.words.proofs.Parts.{part-added}
use Rattle.words.proofs.xor_part.Goals as goal

pub returns : goal.returns
returns c = part-added c.args.at _ (length c.args.src.now) c.args.dst.now _ _ refl c.xor_into.ensures
