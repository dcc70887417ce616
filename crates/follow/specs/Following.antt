-- What the referee's own functions promise: whatever bytes follow, what is found in the end is what the definition says.
use Rattle.std.specs.Prelude.{◌≡◌, ℕ, ◌-◌, ◌<◌, ◌≤◌, Bool, true, false, cond, List, ◌++◌, length, take, drop, ◌==◌, ◌≢◌, nat_lt}
use Rattle.memory.specs.Memory.{shown}
use Rattle.engine.specs.Lent.{Lent}
use Rattle.recording.specs.declared.Entry.{Entry}
use Rattle.recording.specs.declared.Entry.TheVariants.{Made, Wrote, Cut, Another, End}
use Rattle.recording.specs.Recording.{entry_in, entries}
use Rattle.follow.specs.declared.Stage.{Stage}
use Rattle.follow.specs.declared.Verdict.{Verdict}
use Rattle.follow.specs.declared.Went.{Went}
use Rattle.follow.specs.Refereed.{in_order, a_call, a_cut, Stand, Found, followed, refereed, Says, said}

-- more bytes may make an entry of it
unfoldable pub is_open : Entry → Bool
is_open (Made n) = false
is_open (Wrote n) = false
is_open Cut = true
is_open Another = false
is_open End = true

-- what is known at a stage, of the memory m and b and the buffer o
abbrev pub stand_of : Stage → (m b o : List ℕ) → Stand
stand_of s m b o =
    record {
      bench = record { splicer = shown m b; number = s.number; due = take (s.end - s.from) (drop s.from o) };
      mark = s.mark;
      at = s.at;
    }

-- what is found from there on in the bytes l, if nothing was told before them
unfoldable pub found_in : Stage → (m b o l : List ℕ) → Found
found_in s m b o l =
    cond (s.told == in_order) (followed (stand_of s m b o) (entries l)) (record { kind = s.told; stand = stand_of s m b o })

-- between two entries: the memory m and b is a splicer, and what is due lies in the buffer o
pub record Stands (s : Stage) (m b o : List ℕ) : Type 0 where
  pub lent : Lent m b
  pub within : s.from ≤ s.end
  pub room : s.end ≤ length o
  pub kind : s.told < a_cut

-- some whole entries in front of l were gone through: w says how many bytes they have
pub record Goes (s : Stage) (l m b o : List ℕ) (w : Went) (v c q : List ℕ) : Type 0 where
  pub stands : Stands w.stage v c q
  pub have : w.stage.have ≡ s.have
  pub there : w.taken ≤ length l
  pub finds : (more : List ℕ) → found_in s m b o (take w.taken l ++ more) ≡ found_in w.stage v c q more

-- nothing was: l is no whole entry, and all is as it was
pub record Stays (s : Stage) (l m b o : List ℕ) (w : Went) (v c q : List ℕ) : Type 0 where
  pub part : is_open (entry_in l) ≡ true
  pub stage : w.stage ≡ s
  pub words : v ≡ m
  pub bytes : c ≡ b
  pub due : q ≡ o

-- the bytes of an entry that is gone through
unfoldable pub span_of : Entry → ℕ
span_of (Made n) = n
span_of (Wrote n) = n
span_of Cut = 0
span_of Another = 1
span_of End = 0

-- one entry, or nothing
pub record Steps (s : Stage) (l m b o : List ℕ) (w : Went) (v c q : List ℕ) : Type 0 where
  pub goes : Goes s l m b o w v c q
  pub span : w.taken ≡ span_of (entry_in l)
  pub none : w.taken ≡ 0 → Stays s l m b o w v c q

-- whole entries, one at least if l begins with one
pub record Runs (s : Stage) (l m b o : List ℕ) (w : Went) (v c q : List ℕ) : Type 0 where
  pub goes : Goes s l m b o w v c q
  pub first : span_of (entry_in l) ≤ w.taken
  pub some : span_of (entry_in l) ≡ 0 → w.taken ≡ 0
  pub none : w.taken ≡ 0 → Stays s l m b o w v c q

-- something was told
abbrev pub told_as : ℕ → Stage → Stage
told_as k s = record { told = k; number = s.number; mark = s.mark; at = s.at; from = s.from; end = s.end; have = s.have }

-- ## Between two pieces

-- the first `have` bytes of k are no whole entry
pub record Holds (s : Stage) (m b o k : List ℕ) : Type 0 where
  pub stands : Stands s m b o
  pub fits : s.have < length k
  pub part : is_open (entry_in (take s.have k)) ≡ true

-- what is found with `more` behind all bytes handed in
abbrev pub found : Stage → (m b o k more : List ℕ) → Found
found s m b o k more = found_in s m b o (take s.have k ++ more)

-- before any byte
abbrev pub first : Stage
first = record { told = in_order; number = 0; mark = 0; at = 0; from = 0; end = 0; have = 0 }

-- from a fresh splicer of this name
pub record Begins (name : List ℕ) (t : Stage) (m b o k : List ℕ) : Type 0 where
  pub holds : Holds t m b o k
  pub finds : (more : List ℕ) → found t m b o k more ≡ refereed name more

-- the stage and all that is lent are as they were
pub record Same (s : Stage) (m b o k : List ℕ) (t : Stage) (n c q j : List ℕ) : Type 0 where
  pub stage : t ≡ s
  pub words : n ≡ m
  pub bytes : c ≡ b
  pub due : q ≡ o
  pub kept : j ≡ k

-- the piece p is handed in at the stage s; t: the stage after it, with the memory n, c, q and j
pub record Feeds (s : Stage) (p m b o k : List ℕ) (t : Stage) (n c q j : List ℕ) : Type 0 where
  pub holds : Holds t n c q j
  pub finds : (more : List ℕ) → found s m b o k (p ++ more) ≡ found t n c q j more
  pub stays : (s.told ≢ in_order) → Same s m b o k t n c q j

-- a part of the bytes l, from the front on, is handed in
pub record Takes (s : Stage) (l m b o k : List ℕ) (w : Went) (n c q j : List ℕ) : Type 0 where
  pub some : 0 < w.taken
  pub there : w.taken ≤ length l
  pub feeds : Feeds s (take w.taken l) m b o k w.stage n c q j

-- ## What is said

abbrev pub verdict_of : Says → Verdict
verdict_of v = record { kind = v.kind; number = v.number; place = v.place; good = v.good }

-- of what is told so far
abbrev pub told_by : Stage → Verdict
told_by s = verdict_of (said s.told s.number s.mark s.at)

-- what is found if nothing follows, by the stage alone
unfoldable pub end_kind : Stage → ℕ
end_kind s =
    cond (s.told == in_order)
    (cond (s.have == 0) (cond (nat_lt s.from s.end) a_call in_order) a_cut)
    s.told

abbrev pub end_by : Stage → Verdict
end_by s = verdict_of (said (end_kind s) s.number s.mark s.at)
