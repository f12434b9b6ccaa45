-- The lanes below l have their first state.
use Rattle.words.proofs.Lanes.{Filled}
use Rattle.chacha20.specs.ChaCha.{start_of}
use Rattle.chacha20_four.specs.FourStates.{key_in}
use Rattle.chacha20_four.proofs.start.Given as goal

abbrev pub invariant-loop-l : goal.invariant-loop-l
invariant-loop-l l = Filled 16 (λ m. start_of (key_in m l.keys) l.counter l.nonce) l.l l.initial.t l.t
