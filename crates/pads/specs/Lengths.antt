-- The lengths of pads, which the trait `Pads` has as a law: so they stand here, where src/ may cite them. Assumes nothing.
use Rattle.std.specs.Prelude.{◌≡◌, ℕ, ◌+◌, length}
use Rattle.std.proofs.Common.{ap₂, ◌∙◌, length-append}
use Rattle.words.specs.Bytes.{Range}
use Rattle.words.specs.Xor.{xor_list}
use Rattle.sha256.proofs.Digests.{digest-length}
use Rattle.pads.specs.Pads.{pad_input, pad_of, pair_of}

-- a pad has 32 bytes
pub pad-length : (batch j : ℕ) (row : Range) → length (pad_of batch j row) ≡ 32
unfolding pad_of
pad-length batch j row = digest-length (pad_input batch j row)

-- both pads of a row have 64
pub pair-length : (batch : ℕ) (delta : Range) (j : ℕ) (row : Range) → length (pair_of batch delta j row) ≡ 64
pair-length batch delta j row =
    length-append (pad_of batch j row) (pad_of batch j (xor_list row delta))
    ∙ ap₂ (λ (x y : ℕ). x + y) (pad-length batch j row) (pad-length batch j (xor_list row delta))
