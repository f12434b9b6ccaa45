use Rattle.std.proofs.Common.{◌*◌, ◌≤◌, arith}
use native.Mathlib.Nat.{div-le_self, mul-le-mul_right}
use Rattle.sizes.specs.Sizes.{columns}
use Rattle.sizes.proofs.correction_length.Goals as goal

-- there are at most 128 trees
pub overflow_mul-result : goal.overflow_mul-result
overflow_mul-result c =
    let few : c.saturating_sub.result ≤ 128 = omega (arith, div-le_self columns c.args.width) in
    let most : c.saturating_sub.result * c.column_length.result ≤ 128 * c.column_length.result = mul-le-mul_right c.column_length.result few in
    omega (arith, most)
