-- f, the failure lines that are not idle: at most t where at most t are stated, and the number of the processes that end crashed wherever processes crash as
-- their lines say (document 01, 'A round': 'It goes dark undecided exactly when it has a failure line that is not idle'). Whatever the protocol.
-- Assumes nothing.
use mathlib.Core.List.{List, [], ◌∷◌}
use mathlib.Core.Path.{◌≡◌, refl, ap₂}
use mathlib.Core.Bool.{Bool, true, false, cond}
use Prim.Native.Nat.{ℕ, zero, suc, ◌+◌, ◌≤◌, ◌<◌}
use native.Mathlib.Nat.{le_trans}
use native.Mathlib.Omega.{arith}
use lib.Dec.{ltb}
use lib.ListN.{length, get_or}
use Rattle.consensus.specs.Instance.{Instance, fault_of}
use Rattle.consensus.specs.declared.Fault.{Fault}
use Rattle.consensus.specs.declared.Fault.TheVariants.{Correct as correct, Crashes as crashes}
use Rattle.consensus.specs.declared.CrashPoint.{CrashPoint}
use Rattle.consensus.specs.declared.State.{State}
use Rattle.consensus.specs.declared.State.TheVariants.{Undecided as undecided, Decided as decided, Crashed as crashed}
use Rattle.consensus.specs.CrashCount.{is_idle, counts_as_crash, crash_count, has_crashed, crashed_count}
use Rattle.consensus.specs.WellFormed.{Points, WellFormedBy, fault_count}
use Rattle.consensus.specs.Consensus.{IsProcess, CrashesAsSaid, CrashesNoOther}

-- A failure line counts once at most.
pub counts_once : (fault : Fault) (s : State) → counts_as_crash fault s ≤ 1
unfolding counts_as_crash
counts_once correct s = omega arith
counts_once (crashes round point) s = by_test (is_idle round s) refl
  where
    by_test : (b : Bool) → is_idle round s ≡ b → counts_as_crash (crashes round point) s ≤ 1
    by_test true e = rw e (omega arith)
    by_test false e = rw e (omega arith)

-- No more processes crash than have a failure line.
crash_count_le : (faults : List Fault) (states : List State) → crash_count faults states ≤ fault_count faults
unfolding crash_count counts_as_crash fault_count
crash_count_le [] states = omega arith
crash_count_le (fault ∷ faults) [] = omega arith
crash_count_le (correct ∷ faults) (s ∷ states) = omega (arith, crash_count_le faults states)
crash_count_le (crashes round point ∷ faults) (s ∷ states) = omega (arith, crash_count_le faults states, counts_once (crashes round point) s)

pub crashed_is_one : (s : State) (j : ℕ) → s ≡ crashed j → has_crashed s ≡ 1
unfolding has_crashed
crashed_is_one s j e = rw e

-- The failure lines that are not idle are the crashed processes, if they are so process by process.
pub count_by_process : (faults : List Fault) (states : List State) → length faults ≡ length states
    → ((k : ℕ) → k < length states → counts_as_crash (get_or faults k correct) (get_or states k (crashed 0)) ≡ has_crashed (get_or states k (crashed 0)))
    → crash_count faults states ≡ crashed_count states
unfolding crash_count crashed_count
count_by_process [] [] e h = refl
count_by_process [] (s ∷ states) e h = absurd (let z : ⊥ = omega arith in z)
count_by_process (fault ∷ faults) [] e h = refl
count_by_process (fault ∷ faults) (s ∷ states) e h =
    ap₂ ◌+◌ (h 0 (omega arith)) (count_by_process faults states (omega arith) (λ k g. h (suc k) (omega arith)))

-- If the first m have crashed, at least m have.
pub first_crashed : (m : ℕ) (states : List State) → m ≤ length states → ((k : ℕ) → k < m → has_crashed (get_or states k (crashed 0)) ≡ 1) → m ≤ crashed_count states
unfolding crashed_count
first_crashed zero states h all = omega arith
first_crashed (suc m) [] h all = absurd (let z : ⊥ = omega arith in z)
first_crashed (suc m) (s ∷ states) h all =
    omega (arith, all 0 (omega arith), first_crashed m states (omega arith) (λ k g. all (suc k) (omega arith)))

-- At most t processes crash.
pub crashes_within : (points : Points) (x : Instance) → WellFormedBy points x → (states : List State) → crash_count x.pattern states ≤ x.resilience
crashes_within points x w states = le_trans (crash_count_le x.pattern states) w.few_faults

-- A process whose line is not idle has crashed, and one that has crashed has a line: then a line counts just if its process has crashed.
line_counts : (fault : Fault) (s : State) → ((r : ℕ) (point : CrashPoint) → fault ≡ crashes r point → is_idle r s ≡ false → s ≡ crashed r)
    → ((r : ℕ) → s ≡ crashed r → (point : CrashPoint) × (fault ≡ crashes r point)) → counts_as_crash fault s ≡ has_crashed s
unfolding counts_as_crash is_idle has_crashed
line_counts correct (undecided v) said other = refl
line_counts correct (decided i v) said other = refl
line_counts correct (crashed j) said other = let (point, line) = other j refl in let z : ◌≡◌ {A = ℕ} 0 1 = cc in absurd (let z' : ⊥ = omega arith in z')
line_counts (crashes r point) (undecided v) said other =
    let ended : undecided v ≡ crashed r = said r point refl refl in
    let z : ◌≡◌ {A = ℕ} 0 1 = cc in absurd (let z' : ⊥ = omega arith in z')
line_counts (crashes r point) (decided i v) said other = by_test (ltb i r) refl
  where
    by_test : (b : Bool) → ltb i r ≡ b → ◌≡◌ {A = ℕ} (cond b 0 1) 0
    by_test true e = refl
    by_test false e =
        let ended : decided i v ≡ crashed r = said r point refl e in
        let z : ◌≡◌ {A = ℕ} 0 1 = cc in absurd (let z' : ⊥ = omega arith in z')
line_counts (crashes r point) (crashed j) said other = refl

-- Where every process crashes as its line says, a line is not idle just if its process ends crashed.
pub counts_crashed : (x : Instance) (ends : ℕ → State) → CrashesAsSaid x ends → CrashesNoOther x ends
    → (p : ℕ) → IsProcess x p → counts_as_crash (fault_of x p) (ends p) ≡ has_crashed (ends p)
unfolding CrashesAsSaid CrashesNoOther
counts_crashed x ends said other p process =
    line_counts (fault_of x p) (ends p) (λ r point line not_idle. said p r (record { process = process; point = point; line = line; not_idle = not_idle }))
    (λ r e. let c = other p r process e in (c.point, c.line))
