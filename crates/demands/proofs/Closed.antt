-- The incident: what is written after a close counts for no session that was accepted before it. Rests on Once and on how the book is kept.
use mathlib.Core.Path.{◌≡◌, refl, sym, ap, ◌∙◌}
use mathlib.Core.Bool.{Bool, true, false, cond, ◌||◌, ◌&&◌}
use mathlib.Core.List.{List, [], ◌∷◌, ◌++◌}
use Prim.Native.Nat.{ℕ, ◌≤◌}
use native.Mathlib.Omega.{arith}
use lib.Dec.{eqb}
use Rattle.rules.specs.Lists.{All, put, omit}
use Rattle.rules.specs.Request.{session_id}
use Rattle.rules.specs.Follows.ReadBack.{data_in, is_splice}
use Rattle.rules.specs.State.{Splicer}
use Rattle.rules.specs.Records.{Record}
use Rattle.rules.specs.Follows.ReadBack.{records_in}
use Rattle.rules.specs.HouseNumbers.{Answer, refused, good, written_by}
use Rattle.rules.specs.Calls.{Call, opens, closes, messages, ticks, moves, cues, call, after, fresh}
use Rattle.demands.specs.History.{Event, Reply, refusal, wrote, Entry, is_end, is_yes, with_ends, front, last, reply_of, history}
use Rattle.demands.specs.History.{credited, entry_of, book_answered, shut, book_after, book_replied, book, clock_after}
use Rattle.rules.specs.Follows.Sound.{Wired}
use Rattle.rules.proofs.All.{all-into, all_append}
use Rattle.rules.proofs.Every.{all_both, all-kept}
use Rattle.demands.specs.Told.{FromFresh, number_of, Ended, entries_of, Stands}
use Rattle.demands.proofs.Refusals.{a-number}
use Rattle.demands.proofs.Once.{all-ended}

-- ## More calls

history-append : (ks js : List Call) (s : Splicer) → history (ks ++ js) s ≡ history ks s ++ history js (after ks s)
unfolding history after
history-append [] js s = refl
history-append (k ∷ ks) js s = ap (record { call = k; reply = reply_of (call k s).answer } ∷◌) (history-append ks js (call k s).splicer)

after-append : (ks js : List Call) (s : Splicer) → after (ks ++ js) s ≡ after js (after ks s)
unfolding after
after-append [] js s = refl
after-append (k ∷ ks) js s = after-append ks js (call k s).splicer

pub from_more : (h : List Event) (s : Splicer) → FromFresh h s → (js : List Call) → All Wired js
    → FromFresh (h ++ history js s) (after js s)
from_more h s f js w =
    let first = (fresh f.name).splicer in
    record {
      name = f.name;
      whole = f.whole;
      bytes = f.bytes;
      calls = f.calls ++ js;
      wired = all_append Wired f.calls js f.wired w;
      heard = rw (f.heard, f.same) (sym (history-append f.calls js first));
      same = rw f.same (sym (after-append f.calls js first));
    }

book-append : (h g : List Event) (es : List Entry) → book (h ++ g) es ≡ book g (book h es)
unfolding book
book-append [] g es = refl
book-append (e ∷ h) g es = book-append h g (book_replied e.call e.reply es)

-- ## A later book

-- what becomes of an entry
record Later (e f : Entry) : Type 0 where
  conn : f.conn ≡ e.conn
  id : f.id ≡ e.id
  end : f.end ≡ e.end
  mux : f.mux ≡ e.mux
  event : f.event ≡ e.event
  prior : f.prior ≡ e.prior
  overrides : f.overrides ≡ e.overrides
  ends : e.ends ≤ f.ends
  closed : e.closed ≡ true → f.closed ≡ true

data Aligned : List Entry → List Entry → Type 0 where
  none : Aligned [] []
  both : {e f : Entry} {es fs : List Entry} → Later e f → Aligned es fs → Aligned (e ∷ es) (f ∷ fs)

-- the entries of es, behind newer ones
data Since : List Entry → List Entry → Type 0 where
  level : {es fs : List Entry} → Aligned es fs → Since es fs
  newer : {e : Entry} {es fs : List Entry} → Since es fs → Since es (e ∷ fs)

aligned-self : (es : List Entry) → Aligned es es
aligned-self [] = none
aligned-self (e ∷ es) =
    let l : Later e e =
    record {
      conn = refl;
      id = refl;
      end = refl;
      mux = refl;
      event = refl;
      prior = refl;
      overrides = refl;
      ends = omega arith;
      closed = λ k. k;
    } in
    both l (aligned-self es)

aligned-credited : {es fs : List Entry} (rs : List Record) → Aligned es fs → Aligned es (credited rs fs)
unfolding credited
aligned-credited rs none = none
aligned-credited rs (both {e = e} {f = f} l a) =
    let m : Later e (with_ends rs f) = record {
      conn = l.conn;
      id = l.id;
      end = l.end;
      mux = l.mux;
      event = l.event;
      prior = l.prior;
      overrides = l.overrides;
      ends =
          omega (arith, l.ends);
      closed = l.closed;
    } in
    both m (aligned-credited (omit (is_end f.conn f.id) rs) a)

since-credited : {es fs : List Entry} (rs : List Record) → Since es fs → Since es (credited rs fs)
unfolding credited
since-credited rs (level a) = level (aligned-credited rs a)
since-credited rs (newer {e = e} h) = newer (since-credited (omit (is_end e.conn e.id) rs) h)

or_right : (a b : Bool) → b ≡ true → (a || b) ≡ true
or_right true b e = refl
or_right false b e = e

aligned-shut : {es fs : List Entry} (d : ℕ) → Aligned es fs → Aligned es (shut d fs)
unfolding shut
aligned-shut d none = none
aligned-shut d (both {f = f} l a) =
    both (record {
      conn = l.conn;
      id = l.id;
      end = l.end;
      mux = l.mux;
      event = l.event;
      prior = l.prior;
      overrides = l.overrides;
      ends = l.ends;
      closed =
          λ k. or_right (eqb d f.conn) f.closed (l.closed k);
    }) (aligned-shut d a)

since-shut : {es fs : List Entry} (d : ℕ) → Since es fs → Since es (shut d fs)
unfolding shut
since-shut d (level a) = level (aligned-shut d a)
since-shut d (newer h) = newer (since-shut d h)

since-put : {es fs : List Entry} (b : Bool) (e : Entry) → Since es fs → Since es (put b e fs)
since-put true e h = newer h
since-put false e h = h

since-replied : {es fs : List Entry} (k : Call) (r : Reply) → Since es fs → Since es (book_replied k r fs)
unfolding book_replied book_after book_answered
since-replied k (refusal n) h = h
since-replied (opens c) (wrote l) h = since-credited (records_in l) h
since-replied (closes c room) (wrote l) h = since-shut c (since-credited (records_in l) h)
since-replied {es} {fs} (messages c m loans) (wrote l) h = go (is_splice m)
  where
    rs : List Record
    rs = records_in l

    go : (b : Bool) → Since es (put (b && last (is_yes c (session_id (data_in m))) rs) (entry_of c (data_in m) fs)
        (credited (cond b (front rs) rs) fs))
    go true = since-put (last (is_yes c (session_id (data_in m))) rs) (entry_of c (data_in m) fs) (since-credited (front rs) h)
    go false = since-credited rs h
since-replied (ticks seconds micros room) (wrote l) h = since-credited (records_in l) h
since-replied (moves until room) (wrote l) h = since-credited (records_in l) h
since-replied (cues m pts seconds micros room) (wrote l) h = since-credited (records_in l) h

since-book : {es fs : List Entry} (h : List Event) → Since es fs → Since es (book h fs)
unfolding book
since-book [] k = k
since-book {es = es} {fs = fs} (e ∷ h) k = since-book {es = es} {fs = book_replied e.call e.reply fs} h (since-replied e.call e.reply k)

-- ## Connection c has closed

-- its entries have had their end
abbrev Over : ℕ → Entry → Type 0
Over c e = eqb c e.conn ≡ true → (e.ends ≡ 1) × (e.closed ≡ true)

module _ (c : ℕ) where
  same-entry : (e f : Entry) → Later e f → e.ends ≡ 1 → e.closed ≡ true → f.ends ≤ 1 → f ≡ e
  same-entry e f l a b o =
      let g : f.ends ≡ e.ends = omega (arith, l.ends) in
      let k : f.closed ≡ e.closed = l.closed b ∙ sym b in
      λ n. record {
        conn = l.conn n;
        id = l.id n;
        end = l.end n;
        mux = l.mux n;
        event = l.event n;
        prior = l.prior n;
        overrides = l.overrides n;
        ends = g n;
        closed = k n;
      }

  aligned-same : {es fs : List Entry} → Aligned es fs → All (Over c) es → All (λ f. f.ends ≤ 1) fs → entries_of c fs ≡ entries_of c es
  aligned-same none a o = refl
  aligned-same (both {e} {f} {es} {fs} l h) a o =
      ap (λ n. put (eqb c n) f (entries_of c fs)) l.conn ∙ ap (put (eqb c e.conn) f) (aligned-same h a.1 o.1)
      ∙ go (eqb c e.conn) refl
    where
      go : (b : Bool) → eqb c e.conn ≡ b → put b f (entries_of c es) ≡ put b e (entries_of c es)
      go true k = let d = a.0 k in ap (◌∷ entries_of c es) (same-entry e f l d.0 d.1 o.0)
      go false k = refl

  over-ended : (es : List Entry) → All (Over c) es → All (λ e. e.ends ≡ 1) (entries_of c es)
  over-ended es a = all-kept (Over c) (λ e. e.ends ≡ 1) (λ e. eqb c e.conn) (λ e o k. (o k).0) es a

  put-append : (b : Bool) (e : Entry) (l m : List Entry) → put b e (l ++ m) ≡ put b e l ++ m
  put-append true e l m = refl
  put-append false e l m = refl

  since-stands : {es fs : List Entry} → Since es fs → All (Over c) es → All (λ f. f.ends ≤ 1) fs → Stands c es fs
  since-stands {es} (level h) a o = record { newer = []; same = aligned-same h a o; ended = over-ended es a }
  since-stands (newer {e} {es} {fs} h) a o =
      let s = since-stands h a o.1 in
      record {
        newer = put (eqb c e.conn) e s.newer;
        same = rw s.same (put-append (eqb c e.conn) e s.newer (entries_of c es));
        ended = s.ended;
      }

  shut-closed : (es : List Entry) → All (λ e. eqb c e.conn ≡ true → e.closed ≡ true) (shut c es)
  unfolding shut
  shut-closed [] = tt
  shut-closed (e ∷ es) = ((λ k. rw k), shut-closed es)

  -- a good close shuts its entries
  close-closed : (room : ℕ) (s : Splicer) (es : List Entry) → number_of (call (closes c room) s).answer ≡ 0
      → All (λ e. eqb c e.conn ≡ true → e.closed ≡ true) (book (history (closes c room ∷ []) s) es)
  unfolding book history book_replied book_after number_of
  close-closed room s es = go (call (closes c room) s).answer
    where
      go : (a : Answer) → number_of a ≡ 0 → All (λ e. eqb c e.conn ≡ true → e.closed ≡ true) (book_replied (closes c room) (reply_of a) es)
      go (refused n) z = absurd (omega (arith, a-number n))
      go (good consumed rs) z = shut-closed (credited (records_in (written_by (good consumed rs))) es)

-- ## The incident

pub close-stands : (h : List Event) (s : Splicer) → FromFresh h s → (c room : ℕ) → number_of (call (closes c room) s).answer ≡ 0
    → (js : List Call) → All Wired js
    → Stands c (book (h ++ history (closes c room ∷ []) s) []) (book (h ++ history (closes c room ∷ js) s) [])
unfolding book history after
close-stands h s f c room z js w = since-stands c (rw later (since-book (history js t) (level (aligned-self es)))) over once
  where
    t : Splicer
    t = (call (closes c room) s).splicer

    at-close : List Event
    at-close = history (closes c room ∷ []) s

    es : List Entry
    es = book (h ++ at-close) []

    fs : List Entry
    fs = book (h ++ history (closes c room ∷ js) s) []

    later : fs ≡ book (history js t) es
    later = book-append h (history (closes c room ∷ js) s) [] ∙ ap (book (history js t)) (sym (book-append h at-close []))

    shuts : All (λ e. eqb c e.conn ≡ true → e.closed ≡ true) es
    shuts = rw (book-append h at-close []) (close-closed c room s (book h []) z)

    ended : All (Ended (clock_after (h ++ at-close) 0)) es
    ended = all-ended (h ++ at-close) t (from_more h s f (closes c room ∷ []) (tt, tt))

    over : All (Over c) es
    over =
        all-into (λ e. Ended (clock_after (h ++ at-close) 0) e × (eqb c e.conn ≡ true → e.closed ≡ true)) (Over c)
        (λ e a k. let d = a.1 k in (a.0.by_close d, d)) es
        (all_both (Ended (clock_after (h ++ at-close) 0)) (λ e. eqb c e.conn ≡ true → e.closed ≡ true) es ended shuts)

    more : List Event
    more = h ++ history (closes c room ∷ js) s

    once : All (λ e. e.ends ≤ 1) fs
    once = all-into (Ended (clock_after more 0)) (λ e. e.ends ≤ 1) (λ e a. a.once) fs
        (all-ended more (after js t) (from_more h s f (closes c room ∷ js) (tt, w)))
