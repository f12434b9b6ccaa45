-- The nodes' own children are added at their level, and each side's totals at the levels below.
use Rattle.std.proofs.Common.{◌≡◌, ◌-◌, ◌≤◌, length, refl, ap, ◌∙◌, arith}
use borrow.Rule.Slice.PartMut.{put_mid}
use Rattle.words.proofs.Lists.{xor_each-none}
use Rattle.words.proofs.Parts.{part-added, xor_part-length}
use Rattle.chacha20_four.specs.FourStates.{blocks_of}
use Rattle.nonces.specs.Nonce.{nonce_of}
use Rattle.tree.proofs.WalkWords.{child-in, totals-added}
use Rattle.tree.proofs.+totals.Goals as goal

pub returns-then-levels-gt0 : goal.returns-then-levels-gt0
returns-then-levels-gt0 t c =
    let nodes = c.args.nodes.now in
    let t₀ = c.args.t.now in
    let room : 64 ≤ length t₀ = omega (arith, c.requires) in
    let block : _ ≡ blocks_of nodes 0 (nonce_of 0 0) = c.block-c.ensures ∙ ap (blocks_of nodes 0) c.nonce.ensures in
    let e₁ = part-added 0 64 64 t₀ _ _ refl c.xor_into.ensures in
    let t₁ = put_mid 0 (64 - 0) t₀ c.xor_into.new.dst in
    let l₁ : length t₁ ≡ length t₀ = ap length e₁ ∙ xor_part-length t₀ 0 64 _ (omega arith) in
    let e₂ = part-added 64 (length t₁) (length t₁ - 64) t₁ _ _ (omega (arith, l₁)) c.totals.ensures in
    let t₂ = put_mid 64 (length t₁ - 64) t₁ c.totals.new.t in
    let l₂ : length t₂ ≡ length t₁ = ap length e₂ ∙ xor_part-length t₁ 64 (length t₁ - 64) _ (omega (arith, l₁)) in
    totals-added nodes _ _
    (child-in nodes _ _ 0 (omega arith) block c.nodes_at.ensures)
    (child-in nodes _ _ 1 (omega arith) block c.nodes_at-then-levels-gt0.ensures)
    _ t₀ t₁ t₂ _ room block e₁ e₂
    (part-added 64 (length t₂) (length t₂ - 64) t₂ _ _ (omega (arith, l₁, l₂)) c.totals-then-levels-gt0.ensures)

pub returns-else-levels-gt0 : goal.returns-else-levels-gt0
returns-else-levels-gt0 t c = xor_each-none c.args.t.now _ (omega arith)
