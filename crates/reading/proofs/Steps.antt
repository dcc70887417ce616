-- Laws of the walk over a request's structures: what a step says of the rest, and what stands behind the last one.
-- Rests on rules' laws of one structure in front of others (`streams-step`) and of its length (`length-kept`).
use mathlib.Core.Bool.{Bool, true, false, cond}
use mathlib.Core.List.{List, []}
use mathlib.Core.Path.{◌≡◌, refl, sym, ap, ap₂, ◌∙◌}
use Prim.Native.Nat.{ℕ, zero, suc, ◌+◌, ◌≤◌, ◌<◌}
use native.Mathlib.Omega.{arith}
use native.Mathlib.Nat.{add_assoc, add-zero}
use lib.Dec.{eqb}
use lib.ListN.{length, get_or, drop, length-drop}
use lib.Seq.{drop-drop, get_or-drop}
use Rattle.rules.specs.Request.{separate_service, service_id, tail_of}
use Rattle.rules.specs.Streams.{Stream, stream_length, stream_at, bad_stream, Listed, listed, unlisted}
use Rattle.rules.specs.Streams.{behind, streams_in, pid_count, bad_count, separate_in, rest_of}
use Rattle.rules.proofs.Streams.{streams-step, streams-none, good-stream, length-kept, separate-step}
use Rattle.std.specs.Prelude.{Option, Some, None}
use Rattle.reading.specs.Structures.{size_of, sizes_of, place_of, streams_end, end_from, from, tail_place}

size_is : (l : List ℕ) → bad_stream l ≡ false → size_of (stream_at l) ≡ stream_length l
size_is l e = let g = good-stream l e in omega (arith, length-kept l e)

place-behind : (at : ℕ) (s : Stream) (x : Listed) → place_of (at + size_of s) x ≡ place_of at (behind s x)
unfolding place_of behind
place-behind at s (listed l rest) = ap Some (add_assoc at (size_of s) (sizes_of l))
place-behind at s unlisted = refl

-- the walk finds the place that the definition says
pub end_is : (n at : ℕ) (p : List ℕ) → end_from n at p ≡ place_of at (streams_in n (drop at p))
unfolding end_from streams_in place_of
end_is zero at p = ap Some (sym (add-zero at))
end_is (suc n) at p = go (bad_stream (drop at p)) refl (end_is n (at + stream_length (drop at p)) p)
  where
    go : (b : Bool) → bad_stream (drop at p) ≡ b → end_from n (at + stream_length (drop at p)) p
        ≡ place_of (at + stream_length (drop at p)) (streams_in n (drop (at + stream_length (drop at p)) p))
        → cond b None (end_from n (at + stream_length (drop at p)) p) ≡ place_of at
        (cond b unlisted (behind (stream_at (drop at p)) (streams_in n (drop (stream_length (drop at p)) (drop at p)))))
    go true e ih = refl
    go false e ih =
        ih
        ∙ ap₂ (λ k x. place_of (at + k) (streams_in n x)) (sym (size_is (drop at p) e)) (sym (drop-drop (stream_length (drop at p)) at p))
        ∙ place-behind at (stream_at (drop at p)) (streams_in n (drop (stream_length (drop at p)) (drop at p)))

-- ## A step, as the code asks it

-- the structure at the place `at` is good
pub record On (p : List ℕ) (at : ℕ) : Type 0 where
  pub inside : at < length p
  pub within : at + get_or p at 0 ≤ length p
  pub grows : 21 ≤ get_or p at 0

pub on-good : (p : List ℕ) (at : ℕ) → bad_stream (drop at p) ≡ false → On p at
on-good p at e =
    let g = good-stream (drop at p) e in
    let s : stream_length (drop at p) ≡ get_or p (at + 0) 0 = get_or-drop at p 0 0 in
    let t : stream_length (drop at p) ≡ get_or p at 0 = s ∙ ap (λ i. get_or p i 0) (add-zero at) in
    let n = length-drop at p in
    record { inside = omega (arith, g.long, g.within); within = omega (arith, g.long, g.within); grows = omega (arith, g.long) }

pub end_step : (n at : ℕ) (p : List ℕ) → bad_stream (drop at p) ≡ false → end_from (suc n) at p ≡ end_from n (at + get_or p at 0) p
unfolding end_from
end_step n at p e =
    rw e (ap (λ k. end_from n (at + k) p) (get_or-drop at p 0 0 ∙ ap (λ i. get_or p i 0) (add-zero at)))

pub end-bad : (n at : ℕ) (p : List ℕ) → bad_stream (drop at p) ≡ true → end_from (suc n) at p ≡ None
unfolding end_from
end-bad n at p e = rw e

-- ## What stands behind the last one

pub streams-rest : (n : ℕ) (p : List ℕ) (l : List Stream) (r : List ℕ) → streams_in n p ≡ listed l r
    → (r ≡ drop (sizes_of l) p) × (sizes_of l ≤ length p)
streams-rest zero p l r e = let k = streams-none p l r e in rw k.0 (k.1, omega arith)
streams-rest (suc n) p l r e =
    let k = streams-step n p l r e in
    let s = size_is p k.good in
    let g = good-stream p k.good in
    let i = streams-rest n (drop (stream_length p) p) k.more r k.rest in
    rw (k.is, s) (i.0 ∙ drop-drop (sizes_of k.more) (stream_length p) p, omega (arith, i.1, length-drop (stream_length p) p, g.within))

-- good structures, whose walk ended at the place n
pub record Found (p : List ℕ) (n : ℕ) : Type 0 where
  pub items : List Stream
  pub rest : List ℕ
  pub is : separate_in p ≡ listed items rest
  pub end : n ≡ 6 + sizes_of items

pub end-found : (p : List ℕ) (n : ℕ) → streams_end p ≡ Some n → Found p n
unfolding streams_end place_of
end-found p n = go (separate_in p) refl
  where
    go : (x : Listed) → separate_in p ≡ x → place_of 6 x ≡ Some n → Found p n
    go (listed l r) e f = let k : n ≡ 6 + sizes_of l = cc in record { items = l; rest = r; is = e; end = k }
    go unlisted e f = let z : ◌≡◌ {A = ℕ} 0 1 = cc in absurd (omega arith)

pub end-unlisted : (p : List ℕ) → streams_end p ≡ None → separate_in p ≡ unlisted
unfolding streams_end place_of
end-unlisted p = go (separate_in p) refl
  where
    go : (x : Listed) → separate_in p ≡ x → place_of 6 x ≡ None → separate_in p ≡ unlisted
    go (listed l r) e f = let z : ◌≡◌ {A = ℕ} 0 1 = cc in absurd (omega arith)
    go unlisted e f = e

-- the rest stands behind the place that was found
pub found-rest : (p : List ℕ) (n : ℕ) → Found p n → (rest_of (separate_in p) ≡ drop n p) × (n ≤ length p)
unfolding rest_of
found-rest p n f =
    let k = separate-step p f.items f.rest f.is in
    let r = streams-rest (pid_count p) (drop 6 p) f.items f.rest k.streams in
    (rw (f.is, f.end) (r.0 ∙ drop-drop (sizes_of f.items) 6 p), omega (arith, f.end, r.1, length-drop 6 p, k.long))

-- the count of structures is compared before the walk
pub end-counted : (p : List ℕ) → bad_count p ≡ false → streams_end p ≡ end_from (pid_count p) 6 p
unfolding streams_end separate_in
end-counted p e = rw e (sym (end_is (pid_count p) 6 p))

pub end-miscounted : (p : List ℕ) → bad_count p ≡ true → streams_end p ≡ None
unfolding streams_end separate_in place_of
end-miscounted p e = rw e

-- ## Where the tail stands

-- by the place that is found
abbrev pub Placed : (t d : List ℕ) → Option ℕ → Type 0
Placed t d (Some n) = (t ≡ drop n d) × (n ≤ length d)
Placed t d None = t ≡ []

pub tail-is : (d : List ℕ) → 18 ≤ length d → Placed (tail_of d) d (tail_place d)
unfolding tail_place tail_of from rest_of
tail-is d long = go (eqb (service_id d) separate_service) (streams_end (drop 18 d)) refl
  where
    go : (b : Bool) (x : Option ℕ) → streams_end (drop 18 d) ≡ x → Placed (cond b (rest_of (separate_in (drop 18 d))) (drop 18 d)) d
        (cond b (from 18 x) (Some 18))
    go true (Some n) e =
        let f = found-rest (drop 18 d) n (end-found (drop 18 d) n e) in
        (f.0 ∙ drop-drop n 18 d, omega (arith, f.1, length-drop 18 d))
    go true None e = rw (end-unlisted (drop 18 d) e)
    go false x e = (refl, long)
