-- Between the places that are found stand the file's bodies, and nothing after a refusal. Assumes nothing.
use mathlib.Core.Path.{◌≡◌, refl, sym, ap, ◌∙◌}
use mathlib.Core.Bool.{Bool, true, false, cond}
use mathlib.Core.List.{List, []}
use Prim.Native.Nat.{ℕ, zero, suc, ◌+◌, ◌-◌, ◌≤◌, ◌<◌}
use native.Mathlib.Omega.{arith}
use native.Mathlib.Decide.{dec_lt}
use lib.ListN.{length, take, drop}
use Rattle.words.specs.Bytes.{part}
use Rattle.answer.specs.Answer.{is_done, when_done}
use Rattle.batchfile.specs.File.{count_of, length_at, place_at, contents_right, entry_of, body_of, read_answer, places_of, nowhere, places_found, body_between}
use Rattle.batchfile.proofs.Standing.{standing, place-more, none_below, none_above, body_is}
use Rattle.batchfile.proofs.Reading.{read_all}

-- nothing stands between a place and itself
none_between : (file : List ℕ) (a e : ℕ) → a ≡ e → part a (e - a) file ≡ []
none_between file a e q = let none : e - a ≡ 0 = omega arith in ap (λ (n : ℕ). take n (drop a file)) none

module _ (file : List ℕ) (right : contents_right file ≡ true) where
  place : ℕ → ℕ
  place kind = place_at file (entry_of (count_of file) kind)

  -- a body reaches from its place to that of the next kind; the last to the file's end
  next-body : (kind : ℕ) → kind ≤ 5 → part (place kind) (place (kind + 1) - place kind) file ≡ body_of file kind
  unfolding place
  next-body kind h = here (dec_lt (kind + count_of file) 6)
    where
      here : Dec (kind + count_of file < 6) → part (place kind) (place (kind + 1) - place kind) file ≡ body_of file kind
      here (yes lt) =
          let same : entry_of (count_of file) kind ≡ entry_of (count_of file) (kind + 1) = omega arith in
          none_between file (place kind) (place (kind + 1)) (ap (place_at file) same) ∙ sym (none_below file kind lt)
      here (no ge) =
          let e : ℕ = entry_of (count_of file) kind in
          let on : entry_of (count_of file) (kind + 1) ≡ e + 1 = omega arith in
          let size : place (kind + 1) - place kind ≡ length_at file e = omega (arith, ap (place_at file) on ∙ place-more file e) in
          ap (λ (n : ℕ). part (place kind) n file) size ∙ sym (body_is file kind (omega arith) h)

  last-body : part (place 5) (length file - place 5) file ≡ body_of file 5
  unfolding place
  last-body =
      let s = standing file right in
      let all : count_of file ≡ entry_of (count_of file) (5 + 1) = omega arith in
      ap (λ (n : ℕ). part (place 5) (n - place 5) file) (sym s.ends ∙ ap (place_at file) all) ∙ next-body 5 (omega arith)

  read-bodies : (kind : ℕ) → body_between file (places_of file) kind ≡ body_of file kind
  unfolding place
  read-bodies zero =
      let n = (standing file right).counts in
      none_between file (length file) (length file) refl ∙ sym (none_below file 0 (omega (arith, n.most)))
  read-bodies (suc zero) = next-body 1 (omega arith)
  read-bodies (suc (suc zero)) = next-body 2 (omega arith)
  read-bodies (suc (suc (suc zero))) = next-body 3 (omega arith)
  read-bodies (suc (suc (suc (suc zero)))) = next-body 4 (omega arith)
  read-bodies (suc (suc (suc (suc (suc zero))))) = last-body
  read-bodies (suc (suc (suc (suc (suc (suc k)))))) =
      none_between file (length file) (length file) refl ∙ sym (none_above file (suc (suc (suc (suc (suc (suc k)))))) (omega arith))

nowhere-bodies : (file : List ℕ) (kind : ℕ) → body_between file (nowhere (length file)) kind ≡ []
nowhere-bodies file zero = none_between file (length file) (length file) refl
nowhere-bodies file (suc zero) = none_between file (length file) (length file) refl
nowhere-bodies file (suc (suc zero)) = none_between file (length file) (length file) refl
nowhere-bodies file (suc (suc (suc zero))) = none_between file (length file) (length file) refl
nowhere-bodies file (suc (suc (suc (suc zero)))) = none_between file (length file) (length file) refl
nowhere-bodies file (suc (suc (suc (suc (suc zero))))) = none_between file (length file) (length file) refl
nowhere-bodies file (suc (suc (suc (suc (suc (suc k)))))) = none_between file (length file) (length file) refl

-- for every file
pub found-bodies : (file : List ℕ) (kind : ℕ) → body_between file (places_found file) kind ≡ when_done (read_answer file) (body_of file kind) []
found-bodies file kind = here (is_done (read_answer file)) (λ e. (read_all file e).0)
  where
    here : (b : Bool) → (b ≡ true → contents_right file ≡ true)
        → body_between file (cond b (places_of file) (nowhere (length file))) kind ≡ cond b (body_of file kind) []
    here true right = read-bodies file (right refl) kind
    here false right = nowhere-bodies file kind
