-- An honest setup, of the two steps together: what they promise, and nothing else, is assumed of them. Assumes nothing.
use mathlib.Core.Path.{◌≡◌, sym, ap, ◌∙◌}
use mathlib.Core.Bool.{true}
use mathlib.Core.List.{List}
use Prim.Native.Nat.{ℕ, ◌*◌, ◌≤◌}
use native.Mathlib.Omega.{arith}
use lib.ListN.{length}
use Rattle.answer.specs.Answer.{Answer, Done, is_done, when_done}
use Rattle.sizes.specs.Sizes.{width_allowed, trees_of, delta_length, roots_length, receiver_base_pads_length, setup_message_length, siblings_length}
use Rattle.setup.specs.Setup.{message_of, siblings_of, sender_base_pads, beside_paths, ReceiverSetup, SenderSetup}
use Rattle.setup.proofs.Answers.{receiver-fits, receiver-done, sender-done}
use Rattle.setup.proofs.Honest.{message_of-length, sender_base_pads-length, honest-setup, pads-enough}
use Rattle.sizes.proofs.Widths.{width_fits}

module _ (width : ℕ) (roots pads message message' delta siblings siblings' : List ℕ) (answer answer' : Answer)
    (received : ReceiverSetup width roots pads message answer message')
    -- the sender is given the receiver's message, and of each two base pads the one numbered 1 minus the path bit
    (sent : SenderSetup width delta (sender_base_pads (trees_of width) width delta pads) message' siblings answer' siblings') where
  message-is : answer ≡ Done → message' ≡ message_of (trees_of width) width roots pads
  message-is done = received.written ∙ ap (λ (a : Answer). when_done a (message_of (trees_of width) width roots pads) message) done

  -- where both are done, the sender has exactly the nodes beside the paths of delta in the receiver's trees
  pub siblings-are : answer ≡ Done → answer' ≡ Done → siblings' ≡ beside_paths (trees_of width) width delta roots
  siblings-are done done' =
      let fits = receiver-fits width (length roots) (length pads) (length message) (ap is_done (sym received.answered ∙ done)) in
      sent.written
      ∙ ap (λ (a : Answer). when_done a (siblings_of (trees_of width) width delta (sender_base_pads (trees_of width) width delta pads) message') siblings) done'
      ∙ ap (siblings_of (trees_of width) width delta (sender_base_pads (trees_of width) width delta pads)) (message-is done)
      ∙ honest-setup (trees_of width) width delta roots pads (omega (arith, pads-enough width, fits.2))

  -- and both are done at every width that is allowed, on ranges of the lengths named
  pub both-done : width_allowed width ≡ true → length roots ≡ roots_length width → length pads ≡ receiver_base_pads_length → length message ≡ setup_message_length
      → length delta ≡ delta_length → length siblings ≡ siblings_length → (answer ≡ Done) × (answer' ≡ Done)
  both-done allowed r p m d s =
      let fits = width_fits width allowed in
      let done = received.answered ∙ receiver-done width _ _ _ (allowed, r, p, m) in
      let long : trees_of width * (64 * width) ≤ length pads = omega (arith, fits.pairs) in (
        done,
        sent.answered
            ∙ sender-done width _ _ _ _ (
              allowed,
              d,
              sender_base_pads-length (trees_of width) width delta pads long ∙ fits.single,
              ap length (message-is done) ∙ message_of-length (trees_of width) width roots pads ∙ fits.pairs,
              s,
            ),
      )
