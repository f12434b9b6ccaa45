-- One side more each turn, and the level of the next base transfer.
use Rattle.std.proofs.Common.{ℕ, ◌+◌, ◌-◌, length, sym, refl, ap, ◌∙◌, arith, length-set}
use Rattle.words.specs.Bits.{bit_at}
use Rattle.words.proofs.Progress.{begun-none, begun-set, begun_all}
use Rattle.tree.specs.Sides.{sides_of}
use Rattle.tree.proofs.Sides.{side-bit, sides-length, sides-at, level-first, level-wraps, level-next}
use Rattle.tree.proofs.side.all.Goals as goal
use Rattle.tree.proofs.side.all.Goals.{then-level-k, else-level-k}

pub loop-c-init : goal.loop-c-init
loop-c-init c =
    record {
      level-is = level-first c.args.k;
      long = refl;
      begun = begun-none _ _ (sym (sides-length (length c.args.out.now) c.args.k c.args.delta.now));
    }

pub loop-c-preserved : goal.loop-c-preserved
loop-c-preserved c =
    let k = c.args.k in
    let m : ℕ = length c.args.out.now in
    let delta = c.args.delta.now in
    let w = c.loop-c in
    let long = w.invariant.long in
    let level = ap (λ (l : ℕ). l + 1) w.invariant.level-is in
    let bit = c.bit.ensures ∙ ap (λ (l : ℕ). bit_at delta (w.c - l + (k - 1 - l))) w.invariant.level-is in
    let side = side-bit k c.requires.0 delta w.c ∙ sym (sides-at m k delta w.c (omega arith)) in
    record {
      level-is = elim c.if-level-k.branch [
        | then-level-k b ↦ b.level-is ∙ level-wraps k w.c c.requires.0 (sym level ∙ b.if-level-k.true)
        | else-level-k b ↦ b.level-is ∙ level ∙ level-next k w.c c.requires.0 (λ e. b.if-level-k.false (level ∙ e))
      ];
      long = length-set w.out w.c (1 - c.bit.result) ∙ long;
      begun = begun-set w.c _ (sides_of m k delta) _ (omega (arith, sides-length m k delta)) (ap (λ (b : ℕ). 1 - b) bit ∙ side) w.invariant.begun;
    }

pub returns : goal.returns
returns c =
    let m : ℕ = length c.args.out.now in
    begun_all c.loop-c.c (sides_of m c.args.k c.args.delta.now) c.loop-c.out (omega (arith, sides-length m c.args.k c.args.delta.now)) c.loop-c.invariant.begun
