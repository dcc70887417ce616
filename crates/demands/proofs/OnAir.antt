-- Who is on air and what is due, from the calls and the answers' bytes. Rests on what is known of every history: proofs/Owned, Owners,
-- Once.
use mathlib.Core.Path.{◌≡◌, refl, sym, ap, ◌∙◌}
use mathlib.Core.Bool.{Bool, true, false, not, ◌&&◌, and-true}
use mathlib.Core.List.{List, [], ◌∷◌}
use Prim.Native.Nat.{ℕ, suc, ◌+◌, ◌/◌, ◌≤◌, ◌<◌}
use native.Mathlib.Omega.{arith}
use lib.Dec.{eqb, ltb}
use borrow.Author.Tests.{ltb-false, le-ltb, ne_eqb, not-false}
use Rattle.rules.specs.declared.Ninths.{Ninths}
use Rattle.rules.specs.declared.Session.{Session}
use Rattle.rules.specs.Lists.{All, bit, count}
use Rattle.rules.specs.State.{Queue, Splicer, due, not_after}
use Rattle.rules.specs.Records.{AliveResponse}
use Rattle.rules.specs.Follows.ReadBack.{records_in}
use Rattle.rules.specs.Answers.{air_state, air_id, alive_response, air_row}
use Rattle.rules.specs.HouseNumbers.{Called, written_by, Loans}
use Rattle.rules.specs.Calls.{messages, call, due_row}
use Rattle.rules.specs.Follows.Sound.{Falling}
use Rattle.rules.proofs.Tests.{eqb_same}
use Rattle.rules.proofs.All.{all-into}
use Rattle.rules.proofs.Every.{all_none, none-all}
use Rattle.rules.proofs.Tick.{Due, due-first, due-last, due-meets, not_after-at}
use Rattle.rules.proofs.Fitted.{records_of}
use Rattle.rules.proofs.Sound.{sound-found}
use Rattle.demands.specs.History.{Event, book}
use Rattle.demands.specs.Told.{FromFresh}
use Rattle.demands.specs.Due.{state_of, id_of, lives, AirTold, next_of, DueTold}
use Rattle.demands.proofs.Room.{from-sound}
use Rattle.demands.proofs.Once.{clock-told, book-told}
use Rattle.demands.proofs.Owned.{airing, Plays}
use Rattle.demands.proofs.Owners.{owned-told, air-kept}
use Rattle.demands.proofs.Kept.{alive-call}
use Rattle.demands.specs.Airing.{Airing, airings_told, clock_told, number_told}
use Rattle.demands.specs.Kept.{AsksAlive, Ready}
use Rattle.demands.proofs.Book.{Dated}
use Rattle.demands.proofs.Due.{row-never, row_at}
use Rattle.std.specs.Prelude.{None, Option, Some}

-- ## Who is on air

-- Alive's State and SessionID
pub row-state : (k : List Session) → state_of (air_row k) ≡ air_state k
unfolding air_row air_state
row-state [] = refl
row-state (s ∷ k) = refl

pub row-id : (k : List Session) → id_of (air_row k) ≡ air_id k
unfolding air_row air_id
row-id [] = refl
row-id (s ∷ k) = refl

-- the whole answer to an Alive_Request in its place
pub alive-as-read : (h : List Event) (s : Splicer) → FromFresh h s → (c : ℕ) (l : List ℕ) (loans : Loans)
    → AsksAlive c l loans s → Ready c s
    → records_in (written_by (call (messages c l loans) s).answer)
    ≡ AliveResponse c 100 (state_of (air_row s.queue.started)) (id_of (air_row s.queue.started)) (clock_told h / 9) ∷ []
unfolding alive_response
alive-as-read h s f c l loans a r =
    sound-found s (messages c l loans) a.bytes (from-sound h s f)
    ∙ ap (λ (x : Called). records_of x.answer) (alive-call c l loans s a r)
    ∙ sym (λ i. AliveResponse c 100 (row-state s.queue.started i) (row-id s.queue.started i) (clock-told h s f i / 9) ∷ [])

-- the first of those whose AccessTypes fall has the highest, and no other has it
module _ (s : Session) where
  none-higher : (k : List Session) → All (λ u. u.access < s.access) k → count (λ u. ltb s.access u.access) k ≡ 0
  none-higher k a =
      none-all (λ u. ltb s.access u.access) k
      (all-into (λ u. u.access < s.access) (λ u. ltb s.access u.access ≡ false)
      (λ u i. le-ltb s.access u.access (omega arith)) k a)

  none_equal : (k : List Session) → All (λ u. u.access < s.access) k → count (λ u. eqb s.access u.access) k ≡ 0
  none_equal k a =
      none-all (λ u. eqb s.access u.access) k
      (all-into (λ u. u.access < s.access) (λ u. eqb s.access u.access ≡ false)
      (λ u i. ne_eqb s.access u.access (λ e. omega arith)) k a)

-- what the calls and the answers' bytes tell
module _ (h : List Event) (s : Splicer) (f : FromFresh h s) where
  abbrev told : List Airing
  told = airings_told h

  pub air-as-told : AirTold h (air_row s.queue.started)
  unfolding air_row
  air-as-told =
      go s.queue.started (owned-told h s f).live (owned-told h s f).plays (air-kept h s f).started
      (from-sound h s f).holding.falling (book-told h s f).dated.started
    where
      go : (k : List Session) → ((p : ℕ → Bool) → count (λ a. lives a && p a.access) told ≡ count (λ u. p u.access) k)
          → All (Plays s.clock told) k → All (λ u. u.played.0 ≡ number_told h u.conn u.id) k → Falling k
          → All (Dated (book h [])) k → AirTold h (air_row k)
      go [] live plays kept falling dated =
          record {
            either = omega arith;
            none = λ e. all-into (λ a. (lives a && true) ≡ false) (λ a. lives a ≡ false) (λ a i. sym (and-true (lives a)) ∙ i) told
                (all_none (λ a. lives a && true) told (live (λ n. true)));
            one = λ e. absurd (omega arith);
            asked = λ e. absurd (omega arith);
          }
      go (u ∷ k) live plays kept falling dated =
          let t = plays.0.told in
          record {
            either = omega arith;
            none = λ e. absurd (omega arith);
            one = λ e. record {
              on = rw t refl;
              start = rw t refl;
              end = rw t refl;
              played = sym kept.0;
              top = rw t (all-into (λ a. (lives a && ltb u.access a.access) ≡ false) (λ a. lives a ≡ true → a.access ≤ u.access)
                  (λ a i l. ltb-false u.access a.access (sym (ap (λ (b : Bool). b && ltb u.access a.access) l) ∙ i)) told
                  (all_none (λ a. lives a && ltb u.access a.access) told
                  (live (λ n. ltb u.access n)
                  ∙ omega (arith, none-higher u k falling.0, ap bit (le-ltb u.access u.access (omega arith))))));
              only = rw t (live (λ n. eqb u.access n) ∙ omega (arith, none_equal u k falling.0, ap bit (eqb_same u.access)));
            };
            asked = λ e. record { event = dated.0.2; access = rw t refl; mux = dated.0.1 };
          }

-- ## What is due, from the calls and the answers' bytes

-- nothing is due only with nothing held
none-starts : (w : List Session) → ((n : ℕ) → All (λ s. suc n ≤ s.start.0) w) → (p : Session → Bool) → count p w ≡ 0
none-starts [] f p = refl
none-starts (s ∷ w) f p = absurd (omega (arith, (f s.start.0).0))

none-ends : (k : List Session) → ((n : ℕ) → All (λ s. suc n ≤ s.end.0) k) → (p : Session → Bool) → count p k ≡ 0
none-ends [] f p = refl
none-ends (s ∷ k) f p = absurd (omega (arith, (f s.end.0).0))

module _ (h : List Event) (s : Splicer) (f : FromFresh h s) where
  abbrev l : List Airing
  l = airings_told h

  abbrev q : Queue
  q = s.queue

  unended : (p : Airing → Bool) → count (λ a. not a.over && p a) l
      ≡ count (λ u. p (airing false u)) q.waiting + count (λ u. p (airing true u)) q.started
  unended = (owned-told h s f).unended

  none_told : due q ≡ None → All (λ a. a.over ≡ true) l
  none_told e =
      let d : (n : ℕ) → Due (suc n) q = λ n. due-last n q (ap (not_after n) e) in
      all-into (λ a. (not a.over && true) ≡ false) (λ a. a.over ≡ true)
      (λ a i. not-false a.over (sym (and-true (not a.over)) ∙ i)) l
      (all_none (λ a. not a.over && true) l
      (unended (λ a. true)
      ∙ omega (arith, none-starts q.waiting (λ n. (d n).starts) (λ u. true), none-ends q.started (λ n. (d n).ends) (λ u. true))))

  module _ (t : Ninths) (e : due q ≡ Some t) where
    now-due : not_after t.0 (due q) ≡ Some t
    now-due = ap (not_after t.0) e ∙ not_after-at t.0 t (omega arith)

    none_before : (g : Session → ℕ) (k : List Session) → All (λ u. t.0 ≤ g u) k → count (λ u. ltb (g u) t.0) k ≡ 0
    none_before g k a =
        none-all (λ u. ltb (g u) t.0) k
        (all-into (λ u. t.0 ≤ g u) (λ u. ltb (g u) t.0 ≡ false) (λ u i. le-ltb (g u) t.0 i) k a)

    none-earlier : count (λ a. not a.over && ltb (next_of a) t.0) l ≡ 0
    none-earlier =
        let d = due-first t.0 t q now-due in
        unended (λ a. ltb (next_of a) t.0)
        ∙ omega (
          arith,
          none_before (λ u. u.start.0) q.waiting d.starts,
          none_before (λ u. u.end.0) q.started d.ends,
        )

    least-told : All (λ a. a.over ≡ false → t.0 ≤ next_of a) l
    least-told =
        all-into (λ a. (not a.over && ltb (next_of a) t.0) ≡ false) (λ a. a.over ≡ false → t.0 ≤ next_of a)
        (λ a i o. ltb-false (next_of a) t.0 (sym (ap (λ (b : Bool). not b && ltb (next_of a) t.0) o) ∙ i)) l
        (all_none (λ a. not a.over && ltb (next_of a) t.0) l none-earlier)

    one_told : 0 < count (λ a. not a.over && eqb t.0 (next_of a)) l
    one_told = omega (arith, unended (λ a. eqb t.0 (next_of a)), due-meets t.0 t q now-due)

  pub due-as-told : DueTold h (due_row (due q))
  due-as-told = go (due q) refl
    where
      go : (w : Option Ninths) → due q ≡ w → DueTold h (due_row w)
      go None e =
          record {
            none = λ i. none_told e;
            least = λ i. absurd (omega (arith, row-never));
            one = λ i. absurd (omega (arith, row-never));
          }
      go (Some t) e =
          let k = row_at t in
          record {
            none = λ i. absurd (omega (arith, k.0));
            least = λ i. rw k.1 (least-told t e);
            one = λ i. rw k.1 (one_told t e);
          }
