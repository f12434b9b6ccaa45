-- What the conditions on numbers say. Assumes nothing.
use mathlib.Core.Path.{◌≡◌}
use mathlib.Core.Bool.{true, false, and-eq-true_iff}
use Prim.Native.Nat.{ℕ, ◌≤◌, ◌<◌}
use native.Mathlib.Omega.{arith}
use lib.Dec.{leb, ltb}
use borrow.Author.Tests.{leb-true, le-leb, lt-leb, lt-ltb}
use Rattle.rules.specs.Orders.{blocks_allowed, batch_follows, key_usable}

pub blocks-fit : (blocks : ℕ) → blocks_allowed blocks ≡ true → (1 ≤ blocks) × (blocks ≤ 15)
blocks-fit blocks e =
    let h = (and-eq-true_iff (leb 1 blocks) (leb blocks 15)).0 e in
    (leb-true 1 blocks h.0, leb-true blocks 15 h.1)

pub blocks-allowed : (blocks : ℕ) → 1 ≤ blocks → blocks ≤ 15 → blocks_allowed blocks ≡ true
blocks-allowed blocks low high = (and-eq-true_iff (leb 1 blocks) (leb blocks 15)).1 (le-leb 1 blocks low, le-leb blocks 15 high)

pub batch-follows : (last batch : ℕ) → last < batch → batch_follows last batch ≡ true
batch-follows last batch h = (and-eq-true_iff (ltb 0 batch) (ltb last batch)).1 (lt-ltb 0 batch (omega arith), lt-ltb last batch h)

pub key_fits : (key : ℕ) → key_usable key ≡ true → 2 ≤ key
key_fits key e = leb-true 2 key e

pub key-usable : (key : ℕ) → 2 ≤ key → key_usable key ≡ true
key-usable key h = le-leb 2 key h

pub key-weak : (key : ℕ) → key < 2 → key_usable key ≡ false
key-weak key h = lt-leb 2 key h
