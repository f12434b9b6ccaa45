-- The columns of one tree of k levels at one place, for any f that gives what leaf y has there: byte j of its stream, or a bit.
-- Assumes nothing.
use Rattle.std.specs.Prelude.{ℕ, ◌*◌, cond, ◌==◌}
use Rattle.words.specs.Bytes.{Range}
use Rattle.words.specs.Bits.{bit_of}
use Rattle.words.specs.Xor.{◌⊕◌}
use Rattle.tree.specs.Tree.{sum_below}

-- paper 01, 'Trees and streams': u_i is the ⊕ of all F(y)
abbrev pub u_at : (k : ℕ) (root : Range) (f : ℕ → Range → ℕ) → ℕ
u_at k root f = sum_below k root 0 f

-- bit b's column of the receiver's table V: the ⊕ of F(y) over the leaves whose number has bit b
abbrev pub receiver_at : (k : ℕ) (root : Range) (f : ℕ → Range → ℕ) (b : ℕ) → ℕ
receiver_at k root f b = sum_below k root 0 (λ y leaf. bit_of y b * f y leaf)

-- 1 at the leaves other than d, and 0 at d
abbrev pub other_than : ℕ → ℕ → ℕ
other_than d y = cond (y == d) 0 1

-- the sender's first column: the ⊕ of F(y) over the leaves y other than d (paper 01's D_i) for which y ⊕ d has bit b
abbrev pub sender_at : (k : ℕ) (root : Range) (d : ℕ) (f : ℕ → Range → ℕ) (b : ℕ) → ℕ
sender_at k root d f b = sum_below k root 0 (λ y leaf. other_than d y * (bit_of (y ⊕ d) b * f y leaf))
