-- Cheats: a receiver that guesses delta. They are runs with errors, which pass where the guess is right, and close where not. Assumes nothing.
use mathlib.Core.Path.{◌≡◌, refl, sym, ap, ◌∙◌}
use mathlib.Core.Bool.{true}
use mathlib.Core.Logic.{◌⊎◌, inl, inr, ◌↔◌, ◌≢◌}
use mathlib.Core.List.{[]}
use Prim.Native.Nat.{ℕ, ◌*◌, ◌/◌, ◌^◌, ◌<◌, ◌≤◌}
use lib.ListN.{length}
use Rattle.words.specs.Bytes.{Range}
use Rattle.words.specs.Bits.{bit_at}
use Rattle.words.proofs.Xor.{bit-lt, scale-lt}
use Rattle.sizes.specs.Sizes.{width_allowed, columns, trees_of, delta_length, roots_length, receiver_base_pads_length}
use Rattle.sizes.specs.Sizes.{column_length, sender_pads_length}
use Rattle.tree.specs.Tree.{stream_byte}
use Rattle.tree.proofs.Streams.{stream-lt}
use Rattle.answer.specs.Answer.{Done, is_done}
use Rattle.answer.proofs.Order.{apart}
use Rattle.columns.proofs.Tables.{correction_of-length}
use Rattle.columns.proofs.Bounds.{correction_of-bytes}
use Rattle.rules.specs.declared.Record.{Record}
use Rattle.rules.specs.Orders.{with_batch}
use Rattle.errors.specs.Errors.{Sent, honest_correction, column_error, folded_error}
use Rattle.errors.proofs.NoErrors.{folded-is}
use Rattle.errors.proofs.AnyErrors.{erring, erring-length, choice-errs, column-errs}
use Rattle.theorems.specs.Demand2.{Ready}
use Rattle.theorems.specs.Demand3.{Run, Unrefused, Accepts, Closes}
use Rattle.theorems.proofs.Demand3.{demand3, bit_found}
use Rattle.theorems.proofs.Witness.{room, Allowed, a-run, an-unrefused-run}

-- what a receiver sends that adds x to the fold of the choices, and to that of every column whose bit of delta it guesses to be 1
pub record Cheat (s : Sent) (x : ℕ) (guess : Range) : Type 0 where
  pub key_fits : s.key < 2 ^ 64
  pub small : x < 2 ^ 64
  pub some : x ≢ 0
  pub corrected : s.correction ≡ honest_correction s
  pub told : s.message ≡ erring s x (λ c. bit_at guess c * x)

-- the folded error of every tree is x
pub cheat-errs : (s : Sent) (x : ℕ) (guess : Range) → Cheat s x guess → (i : ℕ) → folded_error s i ≡ x
cheat-errs s x guess cheat i =
    folded-is s cheat.corrected i ∙ choice-errs s cheat.key_fits x (λ c. bit_at guess c * x) cheat.told cheat.small

-- and it passes exactly where the guess is right; where it isn't, the session closes
pub cheat-passes : (s : Sent) (x : ℕ) (guess : Range) → Cheat s x guess → (delta : Range) (run : Run s delta) → Unrefused run.answer
    → (run.answer ≡ Done) ↔ ((c : ℕ) → c < columns → bit_at delta c ≡ bit_at guess c)
cheat-passes s x guess cheat delta run unrefused = by ((demand3 s).verdict delta run unrefused)
  where
    erred : (c : ℕ) → c < columns → column_error s c ≡ bit_at guess c * x
    erred c lt =
        column-errs s cheat.key_fits x (λ c. bit_at guess c * x) cheat.told c (scale-lt (2 ^ 64) (bit_at guess c) x (bit-lt _ _) cheat.small) lt

    by : Accepts s delta run ⊎ Closes s delta run → (run.answer ≡ Done) ↔ ((c : ℕ) → c < columns → bit_at delta c ≡ bit_at guess c)
    by (inl accepts) = (
      λ done c lt.
          bit_found (bit_at delta c) (bit_at guess c) x (bit-lt _ _) (bit-lt _ _) cheat.some
          (ap (λ (e : ℕ). bit_at delta c * e) (sym (cheat-errs s x guess cheat (c / s.width))) ∙ accepts.meet c lt ∙ erred c lt),
      λ same. accepts.answered,
    )
    by (inr closes) = (
      λ done. apart (ap is_done (sym closes.answered ∙ done)),
      λ same.
          absurd
          (closes.differ
          (λ c lt.
          ap (λ (e : ℕ). bit_at delta c * e) (cheat-errs s x guess cheat (c / s.width))
          ∙ ap (λ (p : ℕ). p * x) (same c lt)
          ∙ sym (erred c lt))),
    )

-- there is such a run of every guess and every delta, at every width, batch and blocks that are allowed and every usable key: so some runs
-- with errors pass, and some close
pub record CheatRun (width batch blocks key : ℕ) (roots delta guess : Range) (x : ℕ) : Type 0 where
  pub sent : Sent
  pub of-numbers : (sent.width ≡ width) × (sent.batch ≡ batch) × (sent.blocks ≡ blocks) × (sent.key ≡ key)
  pub of-roots : sent.roots ≡ roots
  pub cheat : Cheat sent x guess
  pub run : Run sent delta
  pub unrefused : Unrefused run.answer

pub a-cheat : (width batch blocks key : ℕ) (base_pads roots delta guess : Range) (x : ℕ) (r : Record)
    → width_allowed width ≡ true → 1 ≤ blocks → blocks ≤ 15 → 2 ≤ key → key < 2 ^ 64
    → length base_pads ≡ receiver_base_pads_length → length roots ≡ roots_length width → length delta ≡ delta_length
    → Ready r width → r.last < batch → x < 2 ^ 64 → x ≢ 0
    → CheatRun width batch blocks key roots delta guess x
a-cheat width batch blocks key base_pads roots delta guess x r allowed low high usable key_fits pads-long roots-long delta-long ready next small some =
    record {
      sent = sent;
      of-numbers = (refl, refl, refl, refl);
      of-roots = refl;
      cheat = record { key_fits = key_fits; small = small; some = some; corrected = refl; told = refl };
      run = (a-run sent delta base_pads r all-allowed (with_batch r batch blocks) (room (sender_pads_length blocks))).run;
      unrefused = an-unrefused-run sent delta base_pads r all-allowed usable (erring-length honest x (λ c. bit_at guess c * x));
    }
  where
    honest : Sent
    honest = record { roots = roots; width = width; batch = batch; blocks = blocks; correction = []; message = []; key = key }

    sent : Sent
    sent = record {
      roots = roots;
      width = width;
      batch = batch;
      blocks = blocks;
      correction = honest_correction honest;
      message = erring honest x (λ c. bit_at guess c * x);
      key = key;
    }

    all-allowed : Allowed sent delta base_pads r
    all-allowed = record {
      width-allowed = allowed;
      some-blocks = low;
      few-blocks = high;
      ready = ready;
      next = next;
      roots-length = roots-long;
      base-pads-length = pads-long;
      delta-length = delta-long;
      correction-length = correction_of-length (trees_of width) width (stream_byte batch) (column_length blocks) roots;
      correction-bytes = correction_of-bytes (stream_byte batch) (stream-lt batch) (trees_of width) width (column_length blocks) roots;
    }
