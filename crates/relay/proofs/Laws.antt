-- The records of a cue, connection by connection: what is written for the first n of them, and one turn more.
-- Rests on how records are written one behind another (`ends`, Laws) and on their size (`rules`, Cued).
use mathlib.Core.Path.{◌≡◌, refl, sym, ap, subst, ◌∙◌}
use mathlib.Core.Bool.{Bool, true, false}
use mathlib.Core.List.{List, [], ◌∷◌, ◌++◌, map, append-nil}
use Prim.Native.Nat.{ℕ, zero, suc, ◌+◌, ◌-◌, ◌≤◌, ◌<◌}
use native.Mathlib.Omega.{arith}
use native.Mathlib.Numerals.{add-one}
use lib.ListN.{length, get_or}
use borrow.Rule.Slice.PartMut.{put_mid, mid_of}
use denote.Enum.Bare.{sameb}
use Rattle.rules.specs.contracts.Link.{the_type}
use Rattle.rules.specs.declared.Link.{Link}
use Rattle.rules.specs.declared.Link.TheVariants.{Closed, Opened, Initialised}
use Rattle.rules.specs.declared.Cue.{Cue}
use Rattle.rules.specs.declared.Cue.TheVariants.{At, Timeless, Silent, Bad}
use Rattle.rules.specs.declared.WireTime.{WireTime}
use Rattle.rules.specs.Lists.{put, keep}
use Rattle.rules.specs.State.{is_initialised}
use Rattle.rules.specs.Records.{Record, General, output}
use Rattle.rules.specs.Cues.{initialised_ones, passed_to, complained_to, cue_records}
use Rattle.rules.proofs.Written.{length-written}
use Rattle.rules.proofs.Cued.{cue-weight}
use Rattle.writing.specs.Puts.{Puts}
use Rattle.ends.specs.Does.{Tells}
use Rattle.ends.proofs.Laws.{tells_none, tells-part, tells-then}
use Rattle.relay.specs.Room.{cue_room}

-- ## Which of the connections

-- 0 to n - 1
unfoldable pub below : ℕ → List ℕ
below zero = []
below (suc n) = below n ++ (n ∷ [])

module _ (p : ℕ → Bool) where
  put-append : (b : Bool) (x : ℕ) (l m : List ℕ) → put b x (l ++ m) ≡ put b x l ++ m
  put-append true x l m = refl
  put-append false x l m = refl

  keep_append : (l m : List ℕ) → keep p (l ++ m) ≡ keep p l ++ keep p m
  keep_append [] m = refl
  keep_append (x ∷ l) m = ap (put (p x) x) (keep_append l m) ∙ put-append (p x) x (keep p l) (keep p m)

  keep-next : (n : ℕ) → keep p (below (n + 1)) ≡ keep p (below n) ++ put (p n) n []
  unfolding below
  keep-next n = ap (λ k. keep p (below k)) (add-one n) ∙ keep_append (below n) (n ∷ [])

-- the initialised ones of the first n
abbrev pub first : List Link → ℕ → List ℕ
first links n = keep (λ c. is_initialised (get_or links c Closed)) (below n)

module _ (links : List Link) (n : ℕ) where
  first_more : is_initialised (get_or links n Closed) ≡ true → first links (n + 1) ≡ first links n ++ (n ∷ [])
  first_more e = keep-next (λ c. is_initialised (get_or links c Closed)) n ∙ ap (λ (b : Bool). first links n ++ put b n []) e

  first-same : is_initialised (get_or links n Closed) ≡ false → first links (n + 1) ≡ first links n
  first-same e =
      keep-next (λ c. is_initialised (get_or links c Closed)) n ∙ ap (λ (b : Bool). first links n ++ put b n []) e
      ∙ append-nil (first links n)

-- the comparison in `tell`
pub same-initialised : (a : Link) → sameb the_type a Initialised ≡ is_initialised a
same-initialised Closed = refl
same-initialised Opened = refl
same-initialised Initialised = refl

-- ## One connection

module _ {e : List ℕ} {len : ℕ} (t : WireTime) (l : List ℕ) (c : ℕ) where
  pub tells-silent : {x : Cue} → x ≡ Silent → Tells e len (cue_records x t l (c ∷ [])) len e
  unfolding cue_records
  tells-silent f = rw f tells_none

  pub tells-bad : {x : Cue} {n : ℕ} {y : List ℕ} → x ≡ Bad → len ≤ length e → Puts (General c 117) (mid_of len (length e - len) e) n y
      → Tells e len (cue_records x t l (c ∷ [])) (len + n) (put_mid len (length e - len) e y)
  unfolding cue_records
  tells-bad f h w = rw f (tells-part h w)

  -- the third way of the match in `write_cue`
  pub tells-passed : (x : Cue) {n : ℕ} {y : List ℕ} → (x ≡ Silent → ⊥) → (x ≡ Bad → ⊥) → len ≤ length e
      → Puts (passed_to t l c) (mid_of len (length e - len) e) n y
      → Tells e len (cue_records x t l (c ∷ [])) (len + n) (put_mid len (length e - len) e y)
  unfolding cue_records
  tells-passed (At p) i j h w = tells-part h w
  tells-passed Timeless i j h w = tells-part h w
  tells-passed Silent i j h w = absurd (i refl)
  tells-passed Bad i j h w = absurd (j refl)

-- ## What is written for them

module _ (t : WireTime) (l : List ℕ) where
  map_more : (f : ℕ → Record) (cs ds : List ℕ) → map f (cs ++ ds) ≡ map f cs ++ map f ds
  map_more f [] ds = refl
  map_more f (c ∷ cs) ds = ap (f c ∷◌) (map_more f cs ds)

  records-more : (x : Cue) (cs ds : List ℕ) → cue_records x t l (cs ++ ds) ≡ cue_records x t l cs ++ cue_records x t l ds
  unfolding cue_records
  records-more (At p) cs ds = map_more (passed_to t l) cs ds
  records-more Timeless cs ds = map_more (passed_to t l) cs ds
  records-more Silent cs ds = refl
  records-more Bad cs ds = map_more complained_to cs ds

module _ (x : Cue) (t : WireTime) (l : List ℕ) (links : List Link) (e : List ℕ) where
  -- those of the first n connections stand in the buffer, which held e, and len bytes are written
  pub record Sofar (n len : ℕ) (o : List ℕ) : Type 0 where
    pub few : n ≤ 4
    pub tells : Tells e 0 (cue_records x t l (first links n)) len o
    pub short : len ≤ cue_room n
    pub long : length o ≡ length e

  pub sofar-none : Sofar 0 0 e
  unfolding cue_records below
  sofar-none = record { few = omega arith; tells = none x; short = omega arith; long = refl }
    where
      none : (y : Cue) → Tells e 0 (cue_records y t l []) 0 e
      none (At p) = tells_none
      none Timeless = tells_none
      none Silent = tells_none
      none Bad = tells_none

  module _ (section : length l ≤ 512) (room : cue_room 4 ≤ length e) {n len : ℕ} {o : List ℕ} (v : Sofar n len o) (more : n < 4) where
    pub room-more : len + cue_room 1 ≤ length o
    room-more = omega (arith, v.short, v.long)

    pub sofar-tells : {to : ℕ} {o' : List ℕ} → is_initialised (get_or links n Closed) ≡ true
        → Tells o len (cue_records x t l (n ∷ [])) to o'
        → Sofar (n + 1) to o'
    sofar-tells {to} {o'} i w =
        let rs = cue_records x t l (first links n) in
        let ss = cue_records x t l (n ∷ []) in
        let k : length (output ss) ≤ 530 = omega (arith, cue-weight x t l (n ∷ []) section) in
        let same : cue_records x t l (first links (n + 1)) ≡ rs ++ ss =
        ap (cue_records x t l) (first_more links n i) ∙ records-more t l x (first links n) (n ∷ []) in
        record {
          few = omega arith;
          tells = subst (λ (z : List Record). Tells e 0 z to o') (sym same)
              (tells-then (omega (arith, v.tells.count, v.short)) v.tells w);
          short = omega (arith, w.count, v.short);
          long = ap length w.bytes ∙ length-written o len (output ss) (omega (arith, v.short, v.long)) ∙ v.long;
        }

    pub sofar-skips : is_initialised (get_or links n Closed) ≡ false → Sofar (n + 1) len o
    sofar-skips i =
        record {
          few = omega arith;
          tells = subst (λ (z : List ℕ). Tells e 0 (cue_records x t l z) len o) (sym (first-same links n i)) v.tells;
          short = omega (arith, v.short);
          long = v.long;
        }

  pub sofar-done : {n len : ℕ} {o : List ℕ} → 4 ≤ n → Sofar n len o → Tells e 0 (cue_records x t l (initialised_ones links)) len o
  unfolding initialised_ones below
  sofar-done {n} {len} {o} h v =
      let four : n ≡ 4 = omega (arith, v.few) in
      subst (λ (k : ℕ). Tells e 0 (cue_records x t l (first links k)) len o) four v.tells
