use Rattle.std.proofs.Common.{ℕ, ◌+◌, ◌-◌, ◌*◌, ◌/◌, sym, ap, ◌∙◌, arith}
use Rattle.words.specs.Bytes.{word64}
use Rattle.words.specs.Xor.{◌⊕◌}
use Rattle.gf64.specs.Table.{word_in}
use Rattle.gf64.proofs.FoldLaws.{more-word, no_word}
use Rattle.gf64.proofs.Four.{product_is, folds-are}
use Rattle.gf64.proofs.fold_four.Goals as goal

pub loop-j-preserved : goal.loop-j-preserved
loop-j-preserved c =
    let h = c.loop-j in
    let s = c.args.s.now in
    let len = c.args.len in
    λ g k tab hk.
    let at : ℕ = k * len + 8 * h.j in
    more-word g (word_in h.acc k) _ (len / 8 - h.j) (len / 8 - (h.j + 1)) at (k * len + 8 * (h.j + 1)) s (omega arith) (omega arith)
    (c.add_words.ensures k hk ∙ ap (λ (z : ℕ). z ⊕ word64 s at) (c.products-r.ensures k hk ∙ product_is g k c.args.t.now (word_in h.acc k) tab hk))
    ∙ h.invariant g k tab hk

pub returns : goal.returns
returns c =
    let h = c.loop-j in
    let s = c.args.s.now in
    let len = c.args.len in
    λ g tab.
    c.join_four.ensures
    ∙ folds-are g len s h.acc c.requires
    (λ k hk. sym (no_word g (word_in h.acc k) (len / 8 - h.j) (k * len + 8 * h.j) s (omega arith)) ∙ h.invariant g k tab hk)
