-- When a setup is done. Assumes nothing.
use mathlib.Core.Path.{◌≡◌, sym, ◌∙◌}
use mathlib.Core.Bool.{true}
use Prim.Native.Nat.{ℕ, ◌*◌, ◌≤◌}
use native.Mathlib.Omega.{arith}
use borrow.Author.Tests.{eq-eqb, eqb-true}
use Rattle.answer.specs.Answer.{Done, is_done, first_of}
use Rattle.answer.proofs.Order.{all_hold, done-when}
use Rattle.sizes.specs.Sizes.{width_allowed, trees_of, delta_length, roots_length, receiver_base_pads_length, sender_base_pads_length, setup_message_length, siblings_length}
use Rattle.rules.specs.Orders.{receiver_setup_order, sender_setup_order}
use Rattle.sizes.proofs.Widths.{width_fits}

-- the width is allowed and each range has its length
abbrev pub ReceiverFits : ℕ → ℕ → ℕ → ℕ → Type 0
ReceiverFits k roots pads message =
    (width_allowed k ≡ true) × (roots ≡ roots_length k) × (pads ≡ receiver_base_pads_length) × (message ≡ setup_message_length)

pub receiver-fits : (k roots pads message : ℕ) → is_done (first_of (receiver_setup_order k roots pads message)) ≡ true → ReceiverFits k roots pads message
receiver-fits k roots pads message e =
    let h = all_hold (receiver_setup_order k roots pads message) e in
    (h.0, eqb-true roots _ h.1.0, eqb-true pads _ h.1.1.0, eqb-true message _ h.1.1.1.0)

pub receiver-done : (k roots pads message : ℕ) → ReceiverFits k roots pads message → first_of (receiver_setup_order k roots pads message) ≡ Done
receiver-done k roots pads message f =
    done-when (receiver_setup_order k roots pads message) (f.0, (eq-eqb _ _ f.1, (eq-eqb _ _ f.2, (eq-eqb _ _ f.3, tt))))

abbrev pub SenderFits : ℕ → ℕ → ℕ → ℕ → ℕ → Type 0
SenderFits k delta pads message siblings =
    (width_allowed k ≡ true) × (delta ≡ delta_length) × (pads ≡ sender_base_pads_length) × (message ≡ setup_message_length) × (siblings ≡ siblings_length)

pub sender-fits : (k delta pads message siblings : ℕ) → is_done (first_of (sender_setup_order k delta pads message siblings)) ≡ true
    → SenderFits k delta pads message siblings
sender-fits k delta pads message siblings e =
    let h = all_hold (sender_setup_order k delta pads message siblings) e in
    (h.0, eqb-true delta _ h.1.0, eqb-true pads _ h.1.1.0, eqb-true message _ h.1.1.1.0, eqb-true siblings _ h.1.1.1.1.0)

pub sender-done : (k delta pads message siblings : ℕ) → SenderFits k delta pads message siblings
    → first_of (sender_setup_order k delta pads message siblings) ≡ Done
sender-done k delta pads message siblings f =
    done-when (sender_setup_order k delta pads message siblings)
    (f.0, (eq-eqb _ _ f.1, (eq-eqb _ _ f.2, (eq-eqb _ _ f.3, (eq-eqb _ _ f.4, tt)))))

-- what the work on n trees of k levels then asks

pub receiver-work : (n k width : ℕ) (roots pads message : ℕ) → n ≡ trees_of width → k ≡ width → ReceiverFits width roots pads message
    → (roots ≡ n * 32) × (pads ≡ n * (64 * k)) × (message ≡ n * (64 * k))
receiver-work n k width roots pads message e same f =
    let w = width_fits width f.0 in
    rw e (rw same (omega (arith, f.1), f.2 ∙ sym w.pairs, f.3 ∙ sym w.pairs))

pub sender-work : (n k width : ℕ) (delta pads message siblings : ℕ) → n ≡ trees_of width → k ≡ width → SenderFits width delta pads message siblings
    → (n * k ≤ 8 * delta) × (pads ≡ n * (32 * k)) × (message ≡ n * (64 * k)) × (siblings ≡ n * (32 * k))
sender-work n k width delta pads message siblings e same f =
    let w = width_fits width f.0 in
    rw e (rw same (omega (arith, f.1, w.columns), f.2 ∙ sym w.single, f.3 ∙ sym w.pairs, f.4 ∙ sym w.single))
