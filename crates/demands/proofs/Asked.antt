-- What the theorems ask of a call is no more than it shows: a good message call that is read is such a request (`good-asks` and its kin),
-- an
-- open connection that is not `Ready` gets 103, and a call is granted exactly if the book has one entry more. Rests on Refusals and Kept.
use mathlib.Core.Path.{◌≡◌, refl, sym, ap, ◌∙◌}
use mathlib.Core.Bool.{Bool, true, false, cond}
use mathlib.Core.List.{List, [], ◌∷◌}
use mathlib.Core.Logic.{◌⊎◌, inl, inr}
use Prim.Native.Nat.{ℕ, suc, ◌+◌, ◌<◌}
use native.Mathlib.Omega.{arith}
use lib.ListN.{length}
use Rattle.rules.specs.declared.Request.{Request}
use Rattle.rules.specs.declared.Link.{Link}
use Rattle.rules.specs.declared.Link.TheVariants.{Closed, Opened, Initialised}
use Rattle.rules.specs.declared.Message.TheVariants.{Splice, Extended}
use Rattle.rules.specs.Lists.{All, bit, omit}
use Rattle.rules.specs.Bytes.{message_id, message_size}
use Rattle.rules.specs.Reading.{splice_request, extended_request, config_request, alive_request, read_extended}
use Rattle.rules.specs.Request.{read_splice}
use Rattle.rules.specs.Follows.ReadBack.{data_in}
use Rattle.rules.specs.State.{Splicer, link_of, is_initialised}
use Rattle.rules.specs.Records.{Record, General}
use Rattle.rules.specs.Follows.ReadBack.{records_in}
use Rattle.rules.specs.HouseNumbers.{Called, written_by, no_connection, no_room, not_open, long_section, Loans}
use Rattle.rules.specs.Calls.{framing}
use Rattle.rules.specs.Calls.{Call, opens, closes, messages, ticks, moves, cues, call}
use Rattle.rules.specs.Follows.Sound.{Wired}
use Rattle.rules.proofs.Count.{length-put}
use Rattle.rules.proofs.Fitted.{records_of}
use Rattle.rules.proofs.Sound.{sound-found}
use Rattle.demands.specs.History.{is_end, Event, Entry, granted_in, others_in, entry_of, credited, shut, book_answered, book_after}
use Rattle.demands.specs.Told.{FromFresh, Asks, Inquires, Check, first_number, checks, number_of, granted_by}
use Rattle.demands.specs.Kept.{AsksConfig, AsksAlive, Ready}
use Rattle.demands.proofs.Refusals.{first-number}
use Rattle.demands.proofs.Room.{from-sound}
use Rattle.demands.proofs.Kept.{denied-call}
use Rattle.std.specs.Prelude.{Ok, Some}
use Rattle.rules.specs.Calls.{headed}

-- ## A good message call

-- of numbers that are not 0 none applies where the first that applies is 0
none-applies : (ks : List Check) → All (λ k. 0 < k.number) ks → first_number ks ≡ 0 → All (λ k. k.applies ≡ false) ks
unfolding first_number
none-applies [] a e = tt
none-applies (k ∷ ks) a e = go k.applies refl e (none-applies ks a.1)
  where
    go : (b : Bool) → k.applies ≡ b → cond b k.number (first_number ks) ≡ 0 → (first_number ks ≡ 0 → All (λ k. k.applies ≡ false) ks)
        → (k.applies ≡ false) × All (λ k. k.applies ≡ false) ks
    go true f g rest = absurd (omega (arith, a.0))
    go false f g rest = (f, rest g)

-- what they say of a message
record Good (c : ℕ) (l : List ℕ) (loans : Loans) (s : Splicer) : Type 0 where
  low : no_connection c ≡ false
  roomy : no_room loans.room ≡ false
  opened : not_open c s ≡ false
  sections : long_section loans ≡ false
  framed : framing l ≡ Ok (headed (message_id l) (message_size l))

-- the bytes are bytes, and the answer is no refusal
module _ (c : ℕ) (l : List ℕ) (loans : Loans) (s : Splicer) (w : Wired (messages c l loans))
    (z : number_of (call (messages c l loans) s).answer ≡ 0) where
  good : Good c l loans s
  unfolding checks framing
  good =
      let some : All (λ k. 0 < k.number) (checks (messages c l loans) s) =
      (omega arith, (omega arith, (omega arith, (omega arith, (omega arith, (omega arith, (omega arith, tt))))))) in
      let n = none-applies (checks (messages c l loans) s) some (sym (first-number s (messages c l loans)) ∙ z) in
      let k = n.1.1.1.1 in
      record { low = n.0; roomy = n.1.0; opened = n.1.1.0; sections = n.1.1.1.0; framed = rw (k.0, k.1.0, k.1.1.0) }

  framed-as : (x : ℕ) → message_id l ≡ x → framing l ≡ Ok (headed x (message_size l))
  framed-as x e = good.framed ∙ ap (λ n. Ok (headed n (message_size l))) e

  sized-as : (x n : ℕ) → message_id l ≡ x → message_size l ≡ n → framing l ≡ Ok (headed x n)
  sized-as x n e f = framed-as x e ∙ ap (λ (m : ℕ). Ok (headed x m)) f

  -- a Splice_Request of an initialised connection that is read
  pub good-asks : (r : Request) → message_id l ≡ splice_request → is_initialised (link_of c s) ≡ true → read_splice (data_in l)
      ≡ Some (Splice r)
      → Asks c l loans r s
  good-asks r e i f =
      let g = good in
      record {
        bytes = w;
        low = g.low;
        roomy = g.roomy;
        sections = g.sections;
        ready = i;
        framed = framed-as splice_request e;
        readable = f;
      }

  -- 02, CR 8: an ExtendedData_Request
  pub good-inquires : (x : ℕ) → message_id l ≡ extended_request → is_initialised (link_of c s) ≡ true
      → read_extended (data_in l) ≡ Some (Extended x)
      → Inquires c l loans x s
  good-inquires x e i f =
      let g = good in
      record {
        wired = w;
        low = g.low;
        roomy = g.roomy;
        short = g.sections;
        ready = i;
        framed = framed-as extended_request e;
        readable = f;
      }

  -- 02, CR 6: a GetConfig_Request without data, and an Alive_Request
  pub good-config : message_id l ≡ config_request → message_size l ≡ 0 → AsksConfig c l loans s
  good-config e n =
      let g = good in
      record { bytes = w; low = g.low; roomy = g.roomy; sections = g.sections; framed = sized-as config_request 0 e n }

  pub good-alive : message_id l ≡ alive_request → message_size l ≡ 8 → AsksAlive c l loans s
  good-alive e n =
      let g = good in
      record { bytes = w; low = g.low; roomy = g.roomy; sections = g.sections; framed = sized-as alive_request 8 e n }

  -- a connection that is open is Ready, or its GetConfig_Request gets 103
  pub ready-or-103 : (h : List Event) → FromFresh h s → message_id l ≡ config_request → message_size l ≡ 0
      → Ready c s ⊎ (records_in (written_by (call (messages c l loans) s).answer) ≡ General c 103 ∷ [])
  ready-or-103 h f e n = go (link_of c s) refl good.opened
    where
      go : (k : Link) → link_of c s ≡ k → not_open c s ≡ false
          → Ready c s ⊎ (records_in (written_by (call (messages c l loans) s).answer) ≡ General c 103 ∷ [])
      go Closed is o = absurd (let y : ◌≡◌ {A = ℕ} 0 1 = cc in omega arith)
      go Opened is o =
          let k = denied-call c l loans s (good-config e n) is in
          inr (sound-found s (messages c l loans) w (from-sound h s f) ∙ ap (λ (x : Called). records_of x.answer) k)
      go Initialised is o = inl (ap is_initialised is)

-- ## 02, CR 11: a call that is granted

credited-length : (rs : List Record) (es : List Entry) → length (credited rs es) ≡ length es
unfolding credited
credited-length rs [] = refl
credited-length rs (e ∷ es) = ap suc (credited-length (omit (is_end e.conn e.id) rs) es)

shut-length : (d : ℕ) (es : List Entry) → length (shut d es) ≡ length es
unfolding shut
shut-length d [] = refl
shut-length d (e ∷ es) = ap suc (shut-length d es)

-- the book has one entry more, and else it has none
pub granted-booked : (k : Call) (rs : List Record) (es : List Entry) → length (book_after k rs es) ≡ bit (granted_by k rs) + length es
unfolding book_after book_answered granted_by
granted-booked (opens c) rs es = omega (arith, credited-length rs es)
granted-booked (closes c room) rs es = omega (arith, shut-length c (credited rs es), credited-length rs es)
granted-booked (messages c l loans) rs es =
    length-put (granted_in c l rs) (entry_of c (data_in l) es) (credited (others_in l rs) es)
    ∙ ap (λ n. bit (granted_in c l rs) + n) (credited-length (others_in l rs) es)
granted-booked (ticks seconds micros room) rs es = omega (arith, credited-length rs es)
granted-booked (moves until room) rs es = omega (arith, credited-length rs es)
granted-booked (cues l pts seconds micros room) rs es = omega (arith, credited-length rs es)
