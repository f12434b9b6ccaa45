-- A step comes to its answer condition by condition: the answer that it promises is a chain of `next` from done on, over all its conditions.
-- The promises are those of the exported steps (Ties). Assumes nothing.
use mathlib.Core.Path.{◌≡◌, sym, ap, ◌∙◌}
use mathlib.Core.List.{[], ◌∷◌, ◌++◌}
use Prim.Native.Nat.{ℕ}
use lib.ListN.{length}
use Rattle.words.specs.Bytes.{Range}
use Rattle.sizes.specs.Sizes.{columns, column_length, roots_length, receiver_base_pads_length, sender_base_pads_length, setup_message_length, delta_length, siblings_length, table_length, correction_length, check_message_length, receiver_pads_length, sender_pads_length}
use Rattle.answer.specs.declared.Refusal.TheVariants.{Check}
use Rattle.answer.specs.Answer.{Answer, Done, Order, first_of}
use Rattle.answer.specs.Next.{next}
use Rattle.answer.proofs.Order.{chain, chain_first, chain-onward}
use Rattle.consistency.specs.Message.{accepts}
use Rattle.rules.specs.declared.Record.{Record}
use Rattle.rules.specs.Orders.{has, session_order, batch_order, end_order, before_check}
use Rattle.setup.specs.Setup.{ReceiverSetup, SenderSetup}
use Rattle.session.specs.Steps.{OpenSession, ReceiverStart, SenderCorrect, ReceiverAnswer, SenderVerify}

-- a chain over the first conditions of a step goes on over the others
onward : (cs ds : Order) → first_of (cs ++ ds) ≡ chain (chain Done cs) ds
onward cs ds = sym (chain-onward cs ds) ∙ ap (λ (a : Answer). chain a ds) (sym (chain_first cs))

-- ---- the setups, and opening

module _ {width : ℕ} {answer : Answer} where
  pub receiver-setup-chained : {roots pads message message' : Range} → ReceiverSetup width roots pads message answer message'
      → answer
      ≡ chain (chain Done (session_order width))
      (has (length roots) (roots_length width)
      ∷ has (length pads) receiver_base_pads_length
      ∷ has (length message) setup_message_length ∷ [])
  receiver-setup-chained p = p.answered ∙ onward (session_order width) _

  pub sender-setup-chained : {delta pads message siblings siblings' : Range} → SenderSetup width delta pads message siblings answer siblings'
      → answer
      ≡ chain (chain Done (session_order width))
      (has (length delta) delta_length
      ∷ has (length pads) sender_base_pads_length
      ∷ has (length message) setup_message_length
      ∷ has (length siblings) siblings_length ∷ [])
  sender-setup-chained p = p.answered ∙ onward (session_order width) _

  pub open-session-chained : {r r' : Record} → OpenSession r width answer r' → answer ≡ chain Done (session_order width)
  open-session-chained p = p.answered ∙ sym (chain_first (session_order width))

-- ---- a batch

module _ {r r' : Record} {batch blocks : ℕ} {answer : Answer} where
  pub receiver-start-chained : {roots choices table correction choices' table' correction' : Range}
      → ReceiverStart r roots batch blocks choices table correction answer r' choices' table' correction'
      → answer
      ≡ chain (chain Done (batch_order r batch blocks))
      (has (length roots) (roots_length r.width)
      ∷ has (length choices) (column_length blocks)
      ∷ has (length table) (table_length blocks)
      ∷ has (length correction) (correction_length r.width blocks) ∷ [])
  receiver-start-chained p = p.answered ∙ onward (batch_order r batch blocks) _

  pub sender-correct-chained : {siblings delta correction table table' : Range}
      → SenderCorrect r siblings delta batch blocks correction table answer r' table'
      → answer
      ≡ chain (chain Done (batch_order r batch blocks))
      (has (length siblings) siblings_length
      ∷ has (length delta) delta_length
      ∷ has (length correction) (correction_length r.width blocks)
      ∷ has (length table) (table_length blocks) ∷ [])
  sender-correct-chained p = p.answered ∙ onward (batch_order r batch blocks) _

module _ {r r' : Record} {key : ℕ} {answer : Answer} where
  pub receiver-answer-chained : {choices table message pads message' pads' : Range}
      → ReceiverAnswer r key choices table message pads answer r' message' pads'
      → answer
      ≡ chain (chain Done (end_order r key))
      (has (length choices) (column_length r.blocks)
      ∷ has (length table) (table_length r.blocks)
      ∷ has (length message) check_message_length
      ∷ has (length pads) (receiver_pads_length r.blocks) ∷ [])
  receiver-answer-chained p = p.answered ∙ onward (end_order r key) _

  -- and whether the sender accepts comes last
  pub sender-verify-chained : {table delta message pads pads' : Range} → SenderVerify r key table delta message pads answer r' pads'
      → answer
      ≡ next
      (chain (chain Done (end_order r key))
      (has (length table) (table_length r.blocks)
      ∷ has (length delta) delta_length
      ∷ has (length message) check_message_length
      ∷ has (length pads) (sender_pads_length r.blocks) ∷ []))
      (accepts columns (column_length r.blocks) key table delta message) Check
  sender-verify-chained {table} {delta} {message} {pads} p =
      p.answered
      ∙ sym (chain-onward (before_check r key (length table) (length delta) (length message) (length pads)) _)
      ∙ ap (λ (a : Answer). next a (accepts columns (column_length r.blocks) key table delta message) Check) (onward (end_order r key) _)
