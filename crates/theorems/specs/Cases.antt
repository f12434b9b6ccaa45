-- The marked cases of paper 01, 'Edges', as one table about the defining rules. Assumes nothing.
use Rattle.std.specs.Prelude.{Bool, true, false, List, [], ◌∷◌, ◌++◌, ℕ, eqb, get_or}
use Rattle.words.specs.Bytes.{tabulate}
use Rattle.words.specs.Bits.{of_bits}
use Rattle.words.specs.Xor.{◌⊕◌, xor_list, scale}
use Rattle.gf64.specs.Field.{fold, fold_bytes}
use Rattle.consistency.specs.Message.{column_side, choice_side}
use Rattle.tree.specs.Path.{path_bit, sibling_number, side_of}
use Rattle.tree.specs.Columns.{u_at, receiver_at, sender_at}
use Rattle.columns.specs.Columns.{beside_at}

pub data Case : Type 0 where
  -- a key and words: their fold
  folded : ℕ → List ℕ → Case
  -- a key, the choice column, a column of tree 0, the bit of delta, and what is added to the honest choice fold and to the
  -- honest fold of the column: 1 where the two sides of the check are equal, 0 where not
  checked : ℕ → List ℕ → List ℕ → ℕ → ℕ → ℕ → Case
  -- one row of a tree: width, leaf bits and delta_i: u, and, each as a number, the bits of the receiver's columns, of the sender's by paper
  -- 01's own sum, and of the sender's by the sum that its promise names
  rowed : ℕ → List ℕ → ℕ → Case
  -- a path: width and delta_i: for the levels in turn its sides, then the numbers of the siblings, then those of the sender's base pads
  walked : ℕ → ℕ → Case

abbrev pub truth : Bool → ℕ
truth true = 1
truth false = 0

-- what the rules give. A row goes by the leaf bits, so that its tree's root is no matter
unfoldable pub gives : Case → List ℕ
gives (folded g ws) = fold g ws ∷ []
gives (checked g u v d x y) =
    truth (eqb (column_side g (fold_bytes g v ⊕ y) (xor_list v (scale d u))) (choice_side d (fold_bytes g u ⊕ x))) ∷ []
gives (rowed k bits d) =
    u_at k [] (λ y leaf. get_or bits y 0)
    ∷ of_bits k (receiver_at k [] (λ y leaf. get_or bits y 0))
    ∷ of_bits k (sender_at k [] d (λ y leaf. get_or bits y 0))
    ∷ of_bits k (beside_at k [] d (λ y leaf. get_or bits y 0))
    ∷ []
gives (walked k d) = tabulate k (path_bit k d) ++ (tabulate k (sibling_number k d) ++ tabulate k (side_of k d))

pub record Row : Type 0 where
  -- the number after the M
  pub mark : ℕ
  pub case : Case
  pub result : List ℕ

-- two columns of two words, for M12: any would do
abbrev pub choices : List ℕ
choices = 1 ∷ 0 ∷ 0 ∷ 0 ∷ 0 ∷ 0 ∷ 0 ∷ 0 ∷ 5 ∷ 0 ∷ 0 ∷ 0 ∷ 0 ∷ 0 ∷ 0 ∷ 0 ∷ []

abbrev pub column : List ℕ
column = 3 ∷ 0 ∷ 0 ∷ 0 ∷ 0 ∷ 0 ∷ 0 ∷ 0x80 ∷ 0 ∷ 0 ∷ 0 ∷ 7 ∷ 0 ∷ 0 ∷ 0 ∷ 0 ∷ []

unfoldable pub table : List Row
table =
    record { mark = 1; case = folded 0x0 (0x1 ∷ 0x5 ∷ []); result = 0x5 ∷ [] }
    ∷ record { mark = 2; case = folded 0x1 (0x3 ∷ 0x5 ∷ []); result = 0x6 ∷ [] }
    ∷ record { mark = 3; case = folded 0x2 (0x1 ∷ 0x5 ∷ []); result = 0x7 ∷ [] }
    ∷ record { mark = 4; case = folded 0x2 (0x8000000000000000 ∷ 0x0 ∷ []); result = 0x1b ∷ [] }
    ∷ record { mark = 5; case = folded 0x8000000000000000 (0x2 ∷ 0x0 ∷ []); result = 0x1b ∷ [] }
    ∷ record { mark = 6; case = folded 0x3 (0x3 ∷ 0x0 ∷ []); result = 0x5 ∷ [] }
    ∷ record { mark = 7; case = folded 0x8000000000000000 (0x8000000000000000 ∷ 0x0 ∷ []); result = 0xc00000000000005a ∷ [] }
    ∷ record { mark = 8; case = rowed 2 (1 ∷ 0 ∷ 1 ∷ 1 ∷ []) 2; result = 1 ∷ 1 ∷ 3 ∷ 3 ∷ [] }
    ∷ record { mark = 9; case = rowed 2 (1 ∷ 1 ∷ 1 ∷ 1 ∷ []) 3; result = 0 ∷ 0 ∷ 0 ∷ 0 ∷ [] }
    ∷ record { mark = 10; case = rowed 1 (0 ∷ 1 ∷ []) 0; result = 1 ∷ 1 ∷ 1 ∷ 1 ∷ [] }
    ∷ record { mark = 10; case = rowed 1 (0 ∷ 1 ∷ []) 1; result = 1 ∷ 1 ∷ 0 ∷ 0 ∷ [] }
    ∷ record { mark = 11; case = walked 4 4; result = 0 ∷ 1 ∷ 0 ∷ 0 ∷ 1 ∷ 0 ∷ 3 ∷ 5 ∷ 1 ∷ 0 ∷ 1 ∷ 1 ∷ [] }
    ∷ record { mark = 12; case = checked 0x2 choices column 0 9 0; result = 1 ∷ [] }
    ∷ record { mark = 12; case = checked 0x2 choices column 1 9 0; result = 0 ∷ [] }
    ∷ record { mark = 12; case = checked 0x2 choices column 0 9 9; result = 0 ∷ [] }
    ∷ record { mark = 12; case = checked 0x2 choices column 1 9 9; result = 1 ∷ [] }
    ∷ []
