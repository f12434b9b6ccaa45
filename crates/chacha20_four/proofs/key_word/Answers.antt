use Rattle.std.proofs.Common.{refl, arith}
use Rattle.chacha20_four.proofs.LaneLaws.{key-word}
use Rattle.chacha20_four.proofs.key_word.Goals as goal

pub returns : goal.returns
returns c = key-word c.args.keys.now c.args.l c.args.w _ c.requires.1 refl (omega arith)
