use native.Mathlib.Omega.{arith}
use mathlib.Core.Path.{◌≡◌, refl, subst, ◌∙◌}
use Prim.Native.Nat.{ℕ, ◌-◌}
use Rattle.rules.specs.Lists.{omit}
use Rattle.places.specs.Places.{lot, used, Made}
use Rattle.places.proofs.Laws.{stay-fits, gone-in, omitting-goes, omitting-stays}
use Rattle.places.proofs.Laws.{omitting-ahead, omitting-done}
use Rattle.places.proofs.close_up.Goals as goal

pub overflow_sub-n : goal.overflow_sub-n
overflow_sub-n g c =
    let q = lot c.args.q.now c.args.ring_end c.args.n in
    stay-fits (g.G.Goes.gone c.args.who.now (used q)) q c.args.stay c.requires.good c.requires.stay_value

pub loop-to-smaller-then-not-goes : goal.loop-to-smaller-then-not-goes
loop-to-smaller-then-not-goes g c =
    let l = c.loop-to in
    omega (
      arith,
      omitting-ahead _ _ (lot l.q c.args.ring_end c.args.n) l.from l.to c.args.stay l.invariant.0 c.requires.stay_value
          (omega (arith, l.invariant.0.ahead)),
    )

pub loop-to-preserved-then-not-goes : goal.loop-to-preserved-then-not-goes
loop-to-preserved-then-not-goes g c =
    let l = c.loop-to in
    let v = l.invariant.0 in
    let u = used (lot c.args.q.now c.args.ring_end c.args.n) in
    let q = lot l.q c.args.ring_end c.args.n in
    let m = c.move_to.ensures in
    let a = omitting-ahead _ _ q l.from l.to c.args.stay v c.requires.stay_value (omega (arith, v.ahead)) in
    let d = gone-in _ u q l.from l.to (l.from - 1) v (omega (arith, a)) c.goes.result (c.goes.ensures u c.requires.fits)
    ∙ c.if-not-goes.true in (
      omitting-stays _ _ q l.from l.to (l.from - 1) v (omega (arith, a))
          (lot c.move_to.new.q c.args.ring_end c.args.n) (l.to - 1) (omega (arith, v.ahead)) d m.good
          refl m.list,
      omega arith,
      m.rest ∙ l.invariant.2,
    )

pub loop-to-preserved : goal.loop-to-preserved
loop-to-preserved g c =
    let l = c.loop-to in
    let v = l.invariant.0 in
    let u = used (lot c.args.q.now c.args.ring_end c.args.n) in
    let q = lot l.q c.args.ring_end c.args.n in
    let a = omitting-ahead _ _ q l.from l.to c.args.stay v c.requires.stay_value (omega (arith, v.ahead)) in
    let d = gone-in _ u q l.from l.to (l.from - 1) v (omega (arith, a)) c.goes.result (c.goes.ensures u c.requires.fits)
    ∙ c.if-not-goes.false in
    (omitting-goes _ _ q l.from l.to (l.from - 1) v (omega (arith, a)) d, l.invariant.1, l.invariant.2)

pub returns : goal.returns
returns g c =
    let l = c.loop-to in
    let m = c.drop_first.ensures in
    let q = lot c.args.q.now c.args.ring_end c.args.n in
    let p = g.G.Goes.gone c.args.who.now (used q) in
    let f = stay-fits p q c.args.stay c.requires.good c.requires.stay_value in
    let z : c.args.n - (c.args.n - c.args.stay) ≡ c.args.stay = omega (arith, f) in
    let d = omitting-done _ _ (lot l.q c.args.ring_end c.args.n) l.from l.to c.args.stay l.invariant.0
    c.requires.stay_value f (omega arith) in
    subst (λ (k : ℕ). Made c.args.q.now c.drop_first.new.q c.args.ring_end k (omit p (used q))) z
    (record { good = m.good; list = m.list ∙ d; rest = m.rest ∙ l.invariant.2 })
