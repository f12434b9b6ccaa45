use Rattle.std.proofs.Common.{◌≡◌, ◌+◌, ◌*◌, ap, ◌∙◌, arith, rules}
use Rattle.rows.specs.Place.{place_of}
use Rattle.rows.proofs.Places.{stands}
use Rattle.bench.proofs.bench_block_rows.Goals as goal

-- the block's first row stands at its byte, weight 1
pub returns-then-rows-eq1024 : goal.returns-then-rows-eq1024
returns-then-rows-eq1024 c =
    let first : 64 * c.args.block ≡ 8 * (8 * c.args.block) + 0 = omega arith in
    let rows = c.block_rows.ensures (64 * c.args.block) (ap place_of first ∙ stands (8 * c.args.block) 0) in
    search (rules, rows)
