-- The sessions of `airings` are those of the book: connection, number and end time, in its order, of any history. Assumes nothing.
use mathlib.Core.Path.{◌≡◌, refl, ap, sym, ◌∙◌}
use mathlib.Core.Bool.{Bool, true, false, cond}
use mathlib.Core.List.{List, [], ◌∷◌, map}
use Prim.Native.Nat.{ℕ}
use native.Mathlib.Omega.{arith}
use lib.Dec.{eqb}
use borrow.Author.Tests.{eqb-true}
use Rattle.rules.specs.declared.Start.{Start}
use Rattle.rules.specs.declared.Start.TheVariants.{Timed, Linked}
use Rattle.rules.specs.declared.Message.{Message}
use Rattle.rules.specs.declared.Message.TheVariants.{Init, Alive, Splice, Abort, Config, Extended}
use Rattle.rules.specs.Lists.{put, omit}
use Rattle.rules.specs.Request.{session_id, read_splice}
use Rattle.rules.specs.Follows.ReadBack.{data_in}
use Rattle.rules.specs.State.{same_number}
use Rattle.rules.specs.Records.{Record}
use Rattle.rules.specs.Follows.ReadBack.{records_in}
use Rattle.rules.specs.Calls.{Call, opens, closes, messages, ticks, moves, cues}
use Rattle.demands.specs.History.{Reply, refusal, wrote, Event, Entry, entry_is, is_start, is_end, granted_in, others_in, credited}
use Rattle.demands.specs.History.{last_told, end_told, start_told, end_asked, mux_asked, event_asked, prior_asked, overrides_asked}
use Rattle.demands.specs.History.{entry_of}
use Rattle.demands.specs.History.{book_answered, shut}
use Rattle.demands.specs.History.{book_after, book_replied, book, clock_replied}
use Rattle.rules.proofs.Tests.{and_both}
use Rattle.demands.specs.Airing.{Airing, airing_is, newest, begins, ends, marked, concerns, heard, by_then, heard_all, start_asked}
use Rattle.demands.specs.Airing.{airing_asked, aired_answered, aired_after, aired_replied, airings}
use Rattle.demands.proofs.Marks.{other}
use Rattle.std.specs.Prelude.{None, Option, Some}

pub record Key : Type 0 where
  pub conn : ℕ
  pub id : ℕ
  pub end : ℕ

abbrev pub of_airing : Airing → Key
of_airing a = record { conn = a.conn; id = a.id; end = a.end }

abbrev pub of_entry : Entry → Key
of_entry e = record { conn = e.conn; id = e.id; end = e.end }

-- ## Neither marks nor ends change them

key-heard : (t : ℕ) (r : Record) (l : List Airing) → map of_airing (heard t r l) ≡ map of_airing l
unfolding heard
key-heard t r [] = refl
key-heard t r (a ∷ l) = go (concerns r a) (key-heard t r l)
  where
    same : (s e : Bool) → of_airing (cond s (begins a) (cond e (ends t r a) a)) ≡ of_airing a
    same true e = refl
    same false true = refl
    same false false = refl

    go : (b : Bool) → map of_airing (heard t r l) ≡ map of_airing l
        → map of_airing (cond b (marked t r a ∷ l) (a ∷ heard t r l)) ≡ of_airing a
        ∷ map of_airing l
    go true ih = ap (◌∷ map of_airing l) (same (is_start a.conn a.id r) (is_end a.conn a.id r))
    go false ih = ap (of_airing a ∷◌) ih

key-heard_all : (u : ℕ) (rs : List Record) (l : List Airing) → map of_airing (heard_all u rs l) ≡ map of_airing l
unfolding heard_all
key-heard_all u [] l = refl
key-heard_all u (r ∷ rs) l = key-heard_all u rs (heard (by_then u l rs) r l) ∙ key-heard (by_then u l rs) r l

key-credited : (rs : List Record) (es : List Entry) → map of_entry (credited rs es) ≡ map of_entry es
unfolding credited
key-credited rs [] = refl
key-credited rs (e ∷ es) = ap (of_entry e ∷◌) (key-credited (omit (is_end e.conn e.id) rs) es)

key-shut : (d : ℕ) (es : List Entry) → map of_entry (shut d es) ≡ map of_entry es
unfolding shut
key-shut d [] = refl
key-shut d (e ∷ es) = ap (of_entry e ∷◌) (key-shut d es)

-- ## The end that a number was told

same_number-turned : (a b c d : ℕ) → same_number a b c d ≡ same_number c d a b
same_number-turned a b c d = go (same_number c d a b) refl
  where
    go : (k : Bool) → same_number c d a b ≡ k → same_number a b c d ≡ same_number c d a b
    go false e = other a b c d e ∙ sym e
    go true e =
        let h = and_both (eqb c a) (eqb d b) e in
        rw (eqb-true c a h.0, eqb-true d b h.1)

end-told : (c x : ℕ) (l : List Airing) (es : List Entry) → map of_airing l ≡ map of_entry es → (newest c x l).end ≡ end_told c x es
unfolding newest last_told
end-told c x [] [] h = refl
end-told c x [] (e ∷ es) h = let z : ◌≡◌ {A = ℕ} 0 1 = cc in absurd (omega arith)
end-told c x (a ∷ l) [] h = let z : ◌≡◌ {A = ℕ} 0 1 = cc in absurd (omega arith)
end-told c x (a ∷ l) (e ∷ es) h =
    let k : of_airing a ≡ of_entry e = cc in
    let t : map of_airing l ≡ map of_entry es = cc in
    let i : a.conn ≡ e.conn = ap (λ (y : Key). y.conn) k in
    let j : a.id ≡ e.id = ap (λ (y : Key). y.id) k in
    let n : airing_is c x a ≡ entry_is c x e = same_number-turned a.conn a.id c x ∙ ap (λ (y : ℕ). same_number c x y a.id) i
    ∙ ap (λ (y : ℕ). same_number c x e.conn y) j in
    pick (airing_is c x a) (entry_is c x e) n (ap (λ (y : Key). y.end) k) (end-told c x l es t)
  where
    pick : (b d : Bool) → b ≡ d → a.end ≡ e.end → (newest c x l).end ≡ end_told c x es
        → (cond b a (newest c x l)).end ≡ cond d e.end (end_told c x es)
    pick true true n f g = f
    pick false false n f g = g
    pick true false n f g = let z : ◌≡◌ {A = ℕ} 0 1 = cc in absurd (omega arith)
    pick false true n f g = let z : ◌≡◌ {A = ℕ} 0 1 = cc in absurd (omega arith)

module _ (l : List Airing) (es : List Entry) (h : map of_airing l ≡ map of_entry es) where
  start-told : (c : ℕ) (f : Start) → start_asked c f l ≡ start_told c f es
  unfolding start_asked start_told
  start-told c (Timed t) = refl
  start-told c (Linked p) = end-told c p l es h

  key-asked : (c x : ℕ) (m : Option Message) → of_airing (airing_asked c x m l) ≡ record { conn = c; id = x; end = end_asked c m es }
  unfolding airing_asked end_asked
  key-asked c x (Some (Init revision)) = refl
  key-asked c x (Some Alive) = refl
  key-asked c x (Some (Splice r)) = rw (start-told c r.start)
  key-asked c x (Some (Abort y)) = refl
  key-asked c x (Some (Extended y)) = refl
  key-asked c x (Some Config) = refl
  key-asked c x None = refl

  heard-credited : (u : ℕ) (rs : List Record) → map of_airing (heard_all u rs l) ≡ map of_entry (credited rs es)
  heard-credited u rs = key-heard_all u rs l ∙ h ∙ sym (key-credited rs es)

  key-answered : (u d : ℕ) (b : List ℕ) (rs : List Record)
      → map of_airing (aired_answered u d b rs l) ≡ map of_entry (book_answered d b rs es)
  unfolding aired_answered book_answered entry_of
  key-answered u d b rs = go (granted_in d b rs)
    where
      x : ℕ
      x = session_id (data_in b)

      go : (y : Bool) → map of_airing (put y (airing_asked d x (read_splice (data_in b)) l) (heard_all u (others_in b rs) l))
          ≡ map of_entry (put y (record {
            conn = d;
            id = x;
            end = end_asked d (read_splice (data_in b)) es;
            mux =
                mux_asked (read_splice (data_in b));
            event = event_asked (read_splice (data_in b));
            prior = prior_asked (read_splice (data_in b));
            overrides = overrides_asked (read_splice (data_in b));
            ends = 0;
            closed = false;
          })
          (credited (others_in b rs) es))
      go true = rw (key-asked d x (read_splice (data_in b)), heard-credited u (others_in b rs))
      go false = heard-credited u (others_in b rs)

  key-replied : (u : ℕ) (k : Call) (a : Reply) → map of_airing (aired_replied u k a l) ≡ map of_entry (book_replied k a es)
  unfolding aired_replied book_replied aired_after book_after
  key-replied u k (refusal n) = h
  key-replied u (opens d) (wrote b) = heard-credited u (records_in b)
  key-replied u (closes d room) (wrote b) = heard-credited u (records_in b) ∙ sym (key-shut d (credited (records_in b) es))
  key-replied u (messages d m room) (wrote b) = key-answered u d m (records_in b)
  key-replied u (ticks seconds micros room) (wrote b) = heard-credited u (records_in b)
  key-replied u (moves until room) (wrote b) = heard-credited u (records_in b)
  key-replied u (cues m pts seconds micros room) (wrote b) = heard-credited u (records_in b)

keys : (h : List Event) (now : ℕ) (l : List Airing) (es : List Entry) → map of_airing l ≡ map of_entry es
    → map of_airing (airings h now l) ≡ map of_entry (book h es)
unfolding airings book
keys [] now l es e = e
keys (v ∷ h) now l es e =
    let u = clock_replied v.call v.reply now in
    keys h u (aired_replied u v.call v.reply l) (book_replied v.call v.reply es) (key-replied l es e u v.call v.reply)

pub same-sessions : (h : List Event) → map of_airing (airings h 0 []) ≡ map of_entry (book h [])
same-sessions h = keys h 0 [] [] refl
