-- The laws of conditions in order, for any order: none of them goes by the answers there are. Assumes nothing.
use mathlib.Core.Path.{◌≡◌, refl, sym, ap, ◌∙◌}
use mathlib.Core.Bool.{Bool, true, false, not, cond, ◌&&◌, ◌||◌, false≢true, and-eq-true_iff}
use mathlib.Core.List.{List, [], ◌∷◌, ◌++◌}
use mathlib.Core.Logic.{◌≢◌, inl, inr}
use Prim.Native.Nat.{ℕ}
use lib.Dec.{eqb}
use borrow.Author.Tests.{eqb-true, not-true}
use Rattle.std.specs.Prelude.{Ok, Err}
use Rattle.answer.specs.declared.Refusal.{Refusal}
use Rattle.answer.specs.declared.Refusal.TheVariants.{Check}
use Rattle.answer.specs.Answer.{Answer, Done, number, is_done, when_done, when_failed, Order, first_of, Among}
use Rattle.answer.specs.Next.{next}

-- a condition doesn't both fail and hold
pub apart : {P : Type 0} → ◌≡◌ {A = Bool} false true → P
apart e = absurd (false≢true e)

-- ---- what a step leaves

pub new-when : {A : Type 0} (a : Answer) (new old : A) → is_done a ≡ true → when_done a new old ≡ new
new-when a new old e = ap (λ (b : Bool). cond b new old) e

pub old-when : {A : Type 0} (a : Answer) (new old : A) → is_done a ≡ false → when_done a new old ≡ old
old-when a new old e = ap (λ (b : Bool). cond b new old) e

-- the choice goes through a function
pub cond-ap : {A B : Type 0} (f : A → B) (b : Bool) (new old : A) → f (cond b new old) ≡ cond b (f new) (f old)
cond-ap f true new old = refl
cond-ap f false new old = refl

-- ---- tests of an order that compute, so that `refl` shows them of any step's

-- the test p holds of every refusal
abbrev pub each_refusal : (Answer → Bool) → Order → Bool
each_refusal p [] = true
each_refusal p (c ∷ cs) = p (Err c.1) && each_refusal p cs

abbrev pub member : List ℕ → ℕ → Bool
member [] n = false
member (m ∷ ms) n = eqb n m || member ms n

-- what holds of done and of every refusal holds of the answer
pub first-is : (p : Answer → Bool) (cs : Order) → p Done ≡ true → each_refusal p cs ≡ true → p (first_of cs) ≡ true
unfolding first_of
first-is p [] d e = d
first-is p (c ∷ cs) d e = let h = (and-eq-true_iff (p (Err c.1)) (each_refusal p cs)).0 e in here c.0 (first-is p cs d h.1) h.0
  where
    here : (b : Bool) → p (first_of cs) ≡ true → p (Err c.1) ≡ true → p (cond b (first_of cs) (Err c.1)) ≡ true
    here true later now = later
    here false later now = now

-- no refusal is a failed check
abbrev pub unchecked : Order → Bool
unchecked cs = each_refusal (λ a. not (eqb (number a) (number (Err Check)))) cs

pub not-failed : {A : Type 0} (cs : Order) (a : Answer) (new old : A) → unchecked cs ≡ true → a ≡ first_of cs → when_failed a new old ≡ old
not-failed cs a new old u e =
    ap (λ (x : Answer). when_failed x new old) e
    ∙ ap (λ (b : Bool). cond b new old) (not-true (eqb (number (first_of cs)) (number (Err Check))) (first-is (λ a. not (eqb (number a) (number (Err Check)))) cs refl u))

member-among : (ns : List ℕ) (a : Answer) → member ns (number a) ≡ true → Among ns a
member-among [] a e = false≢true e
member-among (n ∷ ns) a e = here (eqb (number a) n) (eqb-true (number a) n) (member-among ns a) e
  where
    here : (b : Bool) → (b ≡ true → number a ≡ n) → (member ns (number a) ≡ true → Among ns a) → (b || member ns (number a)) ≡ true
        → Among (n ∷ ns) a
    here true same later h = inl (same refl)
    here false same later h = inr (later h)

-- the answer is done or listed
pub first-among : (ns : List ℕ) (cs : Order) → each_refusal (λ a. member (0 ∷ ns) (number a)) cs ≡ true → Among (0 ∷ ns) (first_of cs)
first-among ns cs e = member-among (0 ∷ ns) (first_of cs) (first-is (λ a. member (0 ∷ ns) (number a)) cs refl e)

-- ---- conditions that hold

abbrev pub AllHold : Order → Type 0
AllHold [] = Unit {0}
AllHold (c ∷ cs) = (c.0 ≡ true) × AllHold cs

pub hold-more : (cs ds : Order) → AllHold cs → AllHold ds → AllHold (cs ++ ds)
hold-more [] ds h k = k
hold-more (c ∷ cs) ds h k = (h.0, hold-more cs ds h.1 k)

-- what the rest tells once the first conditions hold
pub onward : (cs ds : Order) → AllHold cs → first_of (cs ++ ds) ≡ first_of ds
unfolding first_of
onward [] ds h = refl
onward (c ∷ cs) ds h = ap (λ (b : Bool). cond b (first_of (cs ++ ds)) (Err c.1)) h.0 ∙ onward cs ds h.1

-- and where the next doesn't hold
pub refused-at : (cs ds : Order) (b : Bool) (x : Refusal) → AllHold cs → b ≡ false → first_of (cs ++ ((b, x) ∷ ds)) ≡ Err x
unfolding first_of
refused-at cs ds b x h e = onward cs ((b, x) ∷ ds) h ∙ ap (λ (t : Bool). cond t (first_of ds) (Err x)) e

-- where the others hold the last decides
pub last-decides : (cs : Order) (b : Bool) (x : Refusal) → AllHold cs → first_of (cs ++ ((b, x) ∷ [])) ≡ cond b Done (Err x)
unfolding first_of
last-decides cs b x h = onward cs ((b, x) ∷ []) h

-- and nothing more is asked once one is refused
pub first-refused : (cs ds : Order) → is_done (first_of cs) ≡ false → first_of (cs ++ ds) ≡ first_of cs
unfolding first_of
first-refused [] ds e = apart (sym e)
first-refused (c ∷ cs) ds e = here c.0 (first-refused cs ds) e
  where
    here : (b : Bool) → (is_done (first_of cs) ≡ false → first_of (cs ++ ds) ≡ first_of cs) → is_done (cond b (first_of cs) (Err c.1)) ≡ false
        → cond b (first_of (cs ++ ds)) (Err c.1) ≡ cond b (first_of cs) (Err c.1)
    here true later q = later q
    here false later q = refl

-- where all hold the step is done
pub done-when : (cs : Order) → AllHold cs → first_of cs ≡ Done
unfolding first_of
done-when [] h = refl
done-when (c ∷ cs) h = ap (λ (b : Bool). cond b (first_of cs) (Err c.1)) h.0 ∙ done-when cs h.1

-- the first conditions hold where the answer is none of their refusals, as the test p tells them
pub reached : (p : Answer → Bool) (cs ds : Order) → each_refusal p cs ≡ true → p (first_of (cs ++ ds)) ≡ false → AllHold cs
unfolding first_of
reached p [] ds e other = tt
reached p (c ∷ cs) ds e other = let h = (and-eq-true_iff (p (Err c.1)) (each_refusal p cs)).0 e in here c.0 (reached p cs ds h.1) h.0 other
  where
    here : (b : Bool) → (p (first_of (cs ++ ds)) ≡ false → AllHold cs) → p (Err c.1) ≡ true → p (cond b (first_of (cs ++ ds)) (Err c.1)) ≡ false
        → (b ≡ true) × AllHold cs
    here true later one q = (refl, later q)
    here false later one q = apart (sym q ∙ one)

-- all conditions hold of a step that is done
pub all_hold : (cs : Order) → is_done (first_of cs) ≡ true → AllHold cs
unfolding first_of
all_hold [] e = tt
all_hold (c ∷ cs) e = here c.0 (all_hold cs) e
  where
    here : (b : Bool) → (is_done (first_of cs) ≡ true → AllHold cs) → is_done (cond b (first_of cs) (Err c.1)) ≡ true → (b ≡ true) × AllHold cs
    here true later q = (refl, later q)
    here false later q = apart q

-- an answer that isn't a refusal is done
pub is-done : (a : Answer) → is_done a ≡ true → a ≡ Done
is-done (Ok tt) e = refl
is-done (Err x) e = apart e

-- and one that isn't done is a refusal
pub not_done : (a : Answer) → a ≢ Done → is_done a ≡ false
not_done (Ok tt) ne = absurd (ne refl)
not_done (Err x) ne = refl

-- ---- a chain of `next` gives the first of its conditions

abbrev pub chain : Answer → Order → Answer
chain a [] = a
chain a (c ∷ cs) = chain (next a c.0 c.1) cs

stopped : (x : Refusal) (cs : Order) → chain (Err x) cs ≡ Err x
stopped x [] = refl
stopped x (c ∷ cs) = stopped x cs

pub chain_first : (cs : Order) → chain Done cs ≡ first_of cs
unfolding first_of
chain_first [] = refl
chain_first (c ∷ cs) = here c.0 (chain_first cs)
  where
    here : (b : Bool) → chain Done cs ≡ first_of cs → chain (next Done b c.1) cs ≡ cond b (first_of cs) (Err c.1)
    here true later = later
    here false later = stopped c.1 cs

-- and it may go on from the first of others
pub chain-onward : (cs ds : Order) → chain (first_of cs) ds ≡ first_of (cs ++ ds)
unfolding first_of
chain-onward [] ds = chain_first ds
chain-onward (c ∷ cs) ds = here c.0 (chain-onward cs ds)
  where
    here : (b : Bool) → chain (first_of cs) ds ≡ first_of (cs ++ ds)
        → chain (cond b (first_of cs) (Err c.1)) ds ≡ cond b (first_of (cs ++ ds)) (Err c.1)
    here true later = later
    here false later = stopped c.1 ds
