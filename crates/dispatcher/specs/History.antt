-- What is said of a history: a list of calls with their answers, the latest last. A position counts from 0.
use Rattle.std.specs.Prelude.{◌≡◌, ℕ, zero, suc, ◌+◌, ◌<◌, ◌≤◌, Bool, true, false, cond, not, ◌&&◌, ◌||◌, List, [], ◌∷◌, length, Some, None, fold, count_by, Option, ◌==◌, nat_eq, nat_le}
use Rattle.std.specs.List.{slice_get}
use Rattle.dispatcher.specs.Machine.{Entry, Event}
use Rattle.dispatcher.specs.declared.event.Event.TheVariants.{Asked, Begun, Dispatched, Named, Opened, Posted, Refused, Turned, Warned}

abbrev pub History : Type 0 → Type 0
History M = List (Event M)

abbrev pub is_some : {X : Type 0} → Option X → Bool
is_some None = false
is_some (Some x) = true

-- the number of positions below n that pass the test
abbrev pub count : (ℕ → Bool) → ℕ → ℕ
count t zero = 0
count t (suc n) = count t n + cond (t n) 1 0

-- whether some element passes the test, and the first position that does
abbrev pub any : {X : Type 0} → (X → Bool) → List X → Bool
any t [] = false
any t (x ∷ xs) = t x || any t xs

abbrev pub later : Option ℕ → Option ℕ
later None = None
later (Some p) = Some (suc p)

abbrev pub place : {X : Type 0} → (X → Bool) → List X → Option ℕ
place t [] = None
place t (x ∷ xs) = cond (t x) (Some 0) (later (place t xs))

-- an accepted turn that was told the cycle d or a later one
abbrev pub reaches : {M : Type 0} → ℕ → Event M → Bool
reaches d (Refused c k) = false
reaches d (Opened z r) = false
reaches d (Posted e) = false
reaches d (Dispatched o) = false
reaches d (Turned t n) = nat_le d t
reaches d (Named o) = false
reaches d (Warned c o) = false
reaches d (Asked g) = false
reaches d Begun = false

-- a dispatch that answered the receipt r
abbrev pub is_receipt : {M : Type 0} → ℕ → Option (Entry M) → Bool
is_receipt r None = false
is_receipt r (Some e) = e.receipt == r

abbrev pub answers : {M : Type 0} → ℕ → Event M → Bool
answers r (Refused c k) = false
answers r (Opened z f) = false
answers r (Posted e) = false
answers r (Dispatched o) = is_receipt r o
answers r (Turned t n) = false
answers r (Named o) = false
answers r (Warned c o) = false
answers r (Asked g) = false
answers r Begun = false

-- whether the deadline turn of the deadline d has happened, and whether the receipt r was dispatched
abbrev pub turned_to : {M : Type 0} → History M → ℕ → Bool
turned_to h d = any (reaches d) h

abbrev pub was_dispatched : {M : Type 0} → History M → ℕ → Bool
was_dispatched h r = any (answers r) h

-- Pending: accepted, its receipt not yet dispatched, and its deadline turn still to come.
abbrev pub is_pending : {M : Type 0} → History M → Entry M → Bool
is_pending h e = not (was_dispatched h e.receipt) && not (turned_to h e.deadline)

-- what the test says of the accepted post that an event is, and false of any other event
abbrev pub of_post : {M : Type 0} → (Entry M → Bool) → Event M → Bool
of_post f (Refused c k) = false
of_post f (Opened z r) = false
of_post f (Posted e) = f e
of_post f (Dispatched o) = false
of_post f (Turned t n) = false
of_post f (Named o) = false
of_post f (Warned c o) = false
of_post f (Asked g) = false
of_post f Begun = false

abbrev pub at_post : {M : Type 0} → (Entry M → Bool) → Option (Event M) → Bool
at_post f None = false
at_post f (Some v) = of_post f v

-- A service order gives some accepted posts, by their positions, one accepted dispatch call each, by its position.
-- The call comes after the post and before each accepted turn told the deadline or later, and no call goes to two posts.
pub record Serves {M : Type 0} (h : History M) (p q : ℕ) : Type 0 where
  pub entry : Entry M
  pub is_post : slice_get h p ≡ Some (Posted entry)
  pub answer : Option (Entry M)
  pub is_call : slice_get h q ≡ Some (Dispatched answer)
  pub after : p < q
  pub in_time : (r t n : ℕ) → slice_get h r ≡ Some (Turned t n) → entry.deadline ≤ t → q < r

pub record ServiceOrder {M : Type 0} (h : History M) (o : ℕ → Option ℕ) : Type 0 where
  pub serves : (p q : ℕ) → o p ≡ Some q → Serves h p q
  pub one_each : (p p' q : ℕ) → o p ≡ Some q → o p' ≡ Some q → p ≡ p'

-- The post at p is late in the order o: its deadline turn has happened, and it has no call.
abbrev pub is_late : {M : Type 0} → History M → (ℕ → Option ℕ) → ℕ → Bool
is_late h o p = at_post (λ e. turned_to h e.deadline && not (is_some (o p))) (slice_get h p)

abbrev pub late_posts : {M : Type 0} → History M → (ℕ → Option ℕ) → ℕ
late_posts h o = count (is_late h o) (length h)

-- The dispatcher's own order: the dispatch call that answered the post's receipt.
abbrev pub call_for : {M : Type 0} → History M → Event M → Option ℕ
call_for h (Refused c k) = None
call_for h (Opened z r) = None
call_for h (Posted e) = place (answers e.receipt) h
call_for h (Dispatched o) = None
call_for h (Turned t n) = None
call_for h (Named o) = None
call_for h (Warned c o) = None
call_for h (Asked g) = None
call_for h Begun = None

abbrev pub call_at : {M : Type 0} → History M → Option (Event M) → Option ℕ
call_at h None = None
call_at h (Some v) = call_for h v

abbrev pub own : {M : Type 0} → History M → ℕ → Option ℕ
own h p = call_at h (slice_get h p)

-- The cycle that the latest accepted open or turn told.
abbrev pub tells : {M : Type 0} → ℕ → Event M → ℕ
tells z (Refused c k) = z
tells z (Opened y r) = y
tells z (Posted e) = z
tells z (Dispatched o) = z
tells z (Turned t n) = t
tells z (Named o) = z
tells z (Warned c o) = z
tells z (Asked g) = z
tells z Begun = z

abbrev pub cycle_of : {M : Type 0} → History M → ℕ
cycle_of h = fold tells 0 h

-- The entry e was posted at p, and is still pending.
pub record PendingAt {M : Type 0} (h : History M) (p : ℕ) (e : Entry M) : Type 0 where
  pub is_post : slice_get h p ≡ Some (Posted e)
  pub pends : is_pending h e ≡ true

-- a service: in a cycle, by its number among the services of that cycle
pub record Service : Type 0 where
  pub cycle : ℕ
  pub number : ℕ

-- The plan gives every pending post one service of its own, from this cycle on and before its deadline, where each cycle
-- has c services.
pub record Meets {M : Type 0} (h : History M) (c : ℕ) (plan : ℕ → Service) : Type 0 where
  pub from_now : (p : ℕ) (e : Entry M) → PendingAt h p e → cycle_of h ≤ (plan p).cycle
  pub in_time : (p : ℕ) (e : Entry M) → PendingAt h p e → (plan p).cycle < e.deadline
  pub offered : (p : ℕ) (e : Entry M) → PendingAt h p e → (plan p).number < c
  pub its_own : (p p' : ℕ) (e e' : Entry M) → PendingAt h p e → PendingAt h p' e' → (plan p).cycle ≡ (plan p').cycle → (plan p).number ≡ (plan p').number → p ≡ p'

-- how many pending posts are due within f cycles
abbrev pub due_within : {M : Type 0} → History M → ℕ → ℕ
due_within h f = count (λ p. at_post (λ e. is_pending h e && nat_le e.deadline (cycle_of h + f)) (slice_get h p)) (length h)

-- a naming that answered the receipt r
abbrev pub names : {M : Type 0} → ℕ → Event M → Bool
names r (Refused c k) = false
names r (Opened z f) = false
names r (Posted e) = false
names r (Dispatched o) = false
names r (Turned t n) = false
names r (Named o) = is_receipt r o
names r (Warned c o) = false
names r (Asked g) = false
names r Begun = false

-- How often the receipt r stands among the dispatches, the namings, and the entries that lie somewhere.
abbrev pub dispatches : {M : Type 0} → History M → ℕ → ℕ
dispatches h r = count_by (answers r) h

abbrev pub namings : {M : Type 0} → History M → ℕ → ℕ
namings h r = count_by (names r) h

abbrev pub lying : {M : Type 0} → List (Entry M) → ℕ → ℕ
lying es r = count_by (λ e. nat_eq e.receipt r) es

-- an accepted post, and a dispatch that gave an entry out
abbrev pub is_post : {M : Type 0} → Event M → Bool
is_post v = of_post (λ _. true) v

abbrev pub gives_out : {M : Type 0} → Event M → Bool
gives_out (Refused c k) = false
gives_out (Opened z f) = false
gives_out (Posted e) = false
gives_out (Dispatched o) = is_some o
gives_out (Turned t n) = false
gives_out (Named o) = false
gives_out (Warned c o) = false
gives_out (Asked g) = false
gives_out Begun = false

-- The entry f, dispatched at q, was posted before, and q comes before each accepted turn told its deadline or later.
pub record DispatchedInTime {M : Type 0} (h : History M) (q : ℕ) (f : Entry M) : Type 0 where
  pub place : ℕ
  pub is_post : slice_get h place ≡ Some (Posted f)
  pub after : place < q
  pub in_time : (r t n : ℕ) → slice_get h r ≡ Some (Turned t n) → f.deadline ≤ t → q < r

-- The entry f, named at q, was posted, then an accepted turn was told its deadline or later, and then came q.
pub record NamedAfterTurn {M : Type 0} (h : History M) (q : ℕ) (f : Entry M) : Type 0 where
  pub place : ℕ
  pub is_post : slice_get h place ≡ Some (Posted f)
  pub turn_place : ℕ
  pub told : ℕ
  pub late : ℕ
  pub is_turn : slice_get h turn_place ≡ Some (Turned told late)
  pub reached : f.deadline ≤ told
  pub post_first : place < turn_place
  pub turn_first : turn_place < q

-- The entry f was posted, and its deadline turn has happened, or has not.
pub record Lies {M : Type 0} (h : History M) (f : Entry M) (turned-past : Bool) : Type 0 where
  pub place : ℕ
  pub is_post : slice_get h place ≡ Some (Posted f)
  pub past : turned_to h f.deadline ≡ turned-past
