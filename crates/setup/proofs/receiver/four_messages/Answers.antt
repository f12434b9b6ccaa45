use Rattle.std.proofs.Common.{List, ℕ, ◌*◌, ◌/◌, ap, ◌∙◌, arith}
use Rattle.words.specs.Bytes.{concat}
use Rattle.words.specs.Lanes.{lane_bytes}
use Rattle.words.specs.Xor.{xor_list}
use Rattle.setup.proofs.Message.{zeros-added, four_lanes}
use Rattle.setup.proofs.receiver.four_messages.Goals as goal

pub returns : goal.returns
returns c =
    let k = c.args.k in
    let t = c.totals.new.t in
    let made = zeros-added 512 (64 * k) t _ c.totals.ensures (omega (arith, c.requires.0)) in
    c.xor_into.ensures
    ∙ ap (λ (m : List ℕ). xor_list m c.args.pads.now)
    (c.store_lanes.ensures ∙ ap (λ (n : ℕ). concat 4 (λ l. lane_bytes l (n / 4) t)) made.0)
    ∙ four_lanes k c.args.roots.now c.args.pads.now _ t c.load_lanes.ensures made.1
