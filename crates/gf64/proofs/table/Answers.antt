use Rattle.std.proofs.Common.{◌≡◌, ℕ, suc, ◌+◌, ◌/◌, get_or, set, refl, ap, ◌∙◌, not-suc-le-zero, arith, length-set, get_or-set_other, get_or-set_same, ext_get_or, below_more}
use Rattle.gf64.specs.Field.{times_x}
use Rattle.gf64.specs.Table.{key_table}
use Rattle.gf64.proofs.Four.{power, power-up, key_rows-length, entry_at}
use Rattle.gf64.proofs.table.Goals as goal
use Rattle.gf64.proofs.table.Goals.{then-m-eq7, else-m-eq7}

pub loop-m-init : goal.loop-m-init
unfolding power
loop-m-init c =
    record {
      long = refl;
      power-is = refl;
      entries = λ e h. absurd (not-suc-le-zero h);
    }

pub loop-m-preserved : goal.loop-m-preserved
loop-m-preserved c =
    let h = c.loop-m in
    let key = c.args.key in
    let more = c.loop-m-test.true in
    let x = c.half.result in
    record {
      long = length-set h.t h.m x ∙ h.invariant.long;
      power-is = elim c.if-m-eq7.branch [
        | then-m-eq7 w ↦
            let n : suc (h.m / 8) ≡ (h.m + 1) / 8 = omega (arith, w.if-m-eq7.true) in
            w.p-is ∙ w.times_x-p.ensures ∙ ap times_x h.invariant.power-is ∙ power-up (h.m / 8) key ∙ ap (λ (k : ℕ). power k key) n
        | else-m-eq7 w ↦
            let n : h.m / 8 ≡ (h.m + 1) / 8 = omega (arith, w.if-m-eq7.false) in
            w.p-is ∙ h.invariant.power-is ∙ ap (λ (k : ℕ). power k key) n
      ];
      entries = below_more (λ (e : ℕ). get_or (set h.t h.m x) e 0 ≡ get_or (key_table key) e 0) h.m
          (λ e l. get_or-set_other h.t h.m e x 0 (λ q. omega arith) ∙ h.invariant.entries e l)
          (get_or-set_same h.t h.m x 0 (omega arith) ∙ c.half.ensures ∙ entry_at key h.m h.p more h.invariant.power-is);
    }

pub returns : goal.returns
returns c =
    let h = c.loop-m in
    let key = c.args.key in
    ext_get_or 0 h.t (key_table key) (omega (arith, key_rows-length 64 key)) (λ e l. h.invariant.entries e (omega arith))
