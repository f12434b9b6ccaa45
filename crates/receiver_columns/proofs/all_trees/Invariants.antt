-- The trees below 4 * q are stored, and no range has changed its length.
use Rattle.std.proofs.Common.{◌≡◌, ℕ, ◌*◌, List, ◌++◌, length}
use Rattle.words.specs.Bytes.{concat}
use Rattle.words.proofs.Layouts.{Laid}
use Rattle.tree.specs.Layout.{root_of}
use Rattle.tree.specs.Streams.{byte_of}
use Rattle.columns.specs.Columns.{u_of, receiver_column}
use Rattle.receiver_columns.proofs.all_trees.Given as goal

pub record Stored (n k : ℕ) (stream : ℕ → List ℕ → ℕ) (len : ℕ) (roots u₀ v₀ choices₀ correction₀ u v choices correction table : List ℕ) (i : ℕ) : Type 0 where
  pub u-long : length u ≡ length u₀
  pub v-long : length v ≡ length v₀
  pub choices-long : length choices ≡ length choices₀
  pub correction-long : length correction ≡ length correction₀
  pub sums : Laid n len (λ j. u_of k stream len (root_of roots j)) i (choices ++ correction)
  pub columns : Laid n (k * len) (λ j. concat k (receiver_column k stream len (root_of roots j))) i table

abbrev pub invariant-loop-q : goal.invariant-loop-q
invariant-loop-q l =
    Stored l.trees.n l.trees.k (byte_of l.stream) (length l.fn.choices) l.roots l.fn.u l.fn.v l.fn.choices l.fn.correction l.u l.v l.choices l.correction l.table (4 * l.q)
