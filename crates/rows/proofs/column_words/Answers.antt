-- The place is carried from column to column.
use Rattle.std.proofs.Common.{◌≡◌, ℕ, ◌+◌, ◌*◌, List, length, replicate, sym, ap, ◌∙◌, arith}
use Rattle.words.specs.Bytes.{word64}
use Rattle.words.proofs.Lists.{tabulate-length, tabulate-at}
use Rattle.words.proofs.Progress.{begun-none, begun-set, begun_all}
use Rattle.rows.specs.Gather.{column_words}
use Rattle.rows.proofs.Blocks.{step-on}
use Rattle.rows.proofs.column_words.Goals as goal

eight-long : (table : List ℕ) (len first : ℕ) → length (column_words table len first) ≡ 8
eight-long table len first = tabulate-length 8 (λ b. word64 table (first + b * len))

pub loop-weight-init : goal.loop-weight-init
loop-weight-init c =
    let a = c.args in
    record {
      place = omega arith;
      begun = begun-none (column_words a.table.now a.len a.first) (replicate 8 0) (sym (eight-long a.table.now a.len a.first));
    }

pub loop-weight-preserved : goal.loop-weight-preserved
loop-weight-preserved c =
    let h = c.loop-weight in
    let a = c.args in
    let t = a.table.now in
    record {
      place = ap (λ (x : ℕ). x + a.len) h.invariant.place ∙ step-on a.len a.first h.weight;
      begun = begun-set h.weight c.load64.result (column_words t a.len a.first) h.v (omega (arith, eight-long t a.len a.first))
          (c.load64.ensures
          ∙ ap (word64 t) h.invariant.place
          ∙ sym (tabulate-at 8 (λ b. word64 t (a.first + b * a.len)) h.weight c.loop-weight-test.true))
          h.invariant.begun;
    }

pub returns : goal.returns
returns c =
    let h = c.loop-weight in
    let a = c.args in
    begun_all h.weight (column_words a.table.now a.len a.first) h.v
    (omega (arith, c.loop-weight-test.false, eight-long a.table.now a.len a.first)) h.invariant.begun
