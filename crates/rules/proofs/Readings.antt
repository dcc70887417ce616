-- What reading grants of a message read from bytes. Rests on Descriptors for what they ask of the multiplexer.
use mathlib.Core.Path.{◌≡◌, subst}
use mathlib.Core.Bool.{false}
use mathlib.Core.List.{List}
use Prim.Native.Nat.{ℕ}
use native.Mathlib.Omega.{arith}
use lib.Dec.{eqb, ltb}
use lib.ListN.{length}
use borrow.Author.Tests.{eqb-false}
use Rattle.rules.specs.declared.Request.{Request}
use Rattle.rules.specs.declared.Message.TheVariants.{Splice}
use Rattle.rules.specs.Request.{nobody}
use Rattle.rules.specs.Reading.{init_request, alive_request, splice_request, abort_request, config_request, extended_request}
use Rattle.rules.specs.Reading.{bad_init, bad_extended, read_init, read_alive, read_abort, read_config, read_extended}
use Rattle.rules.specs.Request.{bad_tail, bad_splice}
use Rattle.rules.specs.Request.{read_start, read_whole, read_splice, prior_session, tail_of, whole_request, descriptors_of}
use Rattle.rules.specs.Reading.{read}
use Rattle.rules.specs.Follows.Asked.{Within, Asked, Reads}
use Rattle.rules.proofs.Tests.{by, or-none}
use Rattle.rules.proofs.All.{All}
use Rattle.rules.proofs.Bytes.{Byte, field_below}
use Rattle.rules.proofs.Streams.{tail-byte}
use Rattle.rules.proofs.Descriptors.{mux-range}
use Rattle.rules.proofs.Checks.{good-tail}
use Rattle.std.specs.Prelude.{Some}

-- ## Messages

module _ (d : List ℕ) (a : All Byte d) where
  start-within : Within (read_start d)
  unfolding read_start
  start-within =
      by Within (eqb (prior_session d) nobody) _ _ (λ e. omega (arith, field_below 8 4 d a, field_below 12 4 d a))
      (λ e. let n = eqb-false (prior_session d) nobody e in omega (arith, field_below 4 4 d a))

  -- with a tail of bytes
  asked-whole : (t : List ℕ) → All Byte t → bad_splice d t ≡ false → Asked (whole_request d t)
  asked-whole t b e =
      let g = good-tail t (or-none (bad_tail t) _ e).0 in
      record {
        id = field_below 0 4 d a;
        start = start-within;
        duration = field_below 0 4 t b;
        event = field_below 4 4 t b;
        access = g.ranked;
        overrides = g.overrides;
        mux = mux-range (descriptors_of t);
      }

  -- whatever the message
  pub read-grants : (id : ℕ) → Reads (read id d)
  unfolding read read_init read_alive read_abort read_config read_extended read_whole read_splice
  read-grants id =
      by Reads (eqb id init_request) _ _ (λ e. by Reads (bad_init d) _ _ (λ f. tt) (λ f. field_below 0 2 d a))
      (λ e. by Reads (eqb id alive_request) _ _ (λ f. by Reads (eqb (length d) 8) _ _ (λ g. tt) (λ g. tt))
      (λ f. by Reads (eqb id splice_request) _ _
      (λ g. by Reads (ltb (length d) 18) _ _ (λ h. tt)
      (λ h. by Reads (bad_splice d (tail_of d)) _ _ (λ i. tt) (asked-whole (tail_of d) (tail-byte d a))))
      (λ g. by Reads (eqb id abort_request) _ _ (λ h. by Reads (eqb (length d) 4) _ _ (λ i. field_below 0 4 d a) (λ i. tt))
      (λ h. by Reads (eqb id extended_request) _ _ (λ i. by Reads (bad_extended d) _ _ (λ j. tt) (λ j. field_below 0 4 d a))
      (λ i. by Reads (eqb id config_request) _ _ (λ j. by Reads (eqb (length d) 0) _ _ (λ k. tt) (λ k. tt)) (λ j. tt))))))

  pub splice-grants : (id : ℕ) (r : Request) → read id d ≡ Some (Splice r) → Asked r
  splice-grants id r e = subst Reads e (read-grants id)
