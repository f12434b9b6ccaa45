-- The choices are the first sum, and are added to the others.
use Rattle.std.proofs.Common.{ℕ, suc, ◌-◌, List, length, ◌∙◌}
use Rattle.tree.specs.Layout.{root_of}
use Rattle.tree.specs.Streams.{byte_of}
use Rattle.columns.specs.Columns.{u_of, correction_of}
use Rattle.columns.proofs.Tables.{u_of-length}
use Rattle.receiver_columns.proofs.Starts.{choices-are, corrections-made}
use Rattle.receiver_columns.proofs.start.Goals as goal

pub returns-clause-choices_after : goal.returns-clause-choices_after
returns-clause-choices_after c =
    let s = c.args in
    let stream = byte_of s.stream in
    let len : ℕ = length s.choices.now in
    (choices-are (λ i. u_of s.trees.k stream len (root_of s.roots.now i)) s.trees.n len _ _ s.trees.fit.some
    (λ i. u_of-length s.trees.k stream len (root_of s.roots.now i)) c.all_trees.auto.choices c.all_trees.ensures.correction_after).0

pub returns-clause-correction_after : goal.returns-clause-correction_after
unfolding correction_of
returns-clause-correction_after c =
    let s = c.args in
    let stream = byte_of s.stream in
    let len : ℕ = length s.choices.now in
    let f : ℕ → List ℕ = λ i. u_of s.trees.k stream len (root_of s.roots.now i) in
    let apart = choices-are f s.trees.n len _ _ s.trees.fit.some (λ i. u_of-length s.trees.k stream len (root_of s.roots.now i)) c.all_trees.auto.choices c.all_trees.ensures.correction_after in
    c.xor_parts.ensures
    ∙ corrections-made (s.trees.n - 1) len (λ i. f (suc i)) (λ i. u_of-length s.trees.k stream len (root_of s.roots.now (suc i))) _ _
    (f 0) apart.0 (u_of-length s.trees.k stream len (root_of s.roots.now 0)) apart.1
