-- The result of a run read back from the front of an output: the end of each process, what it sent, and the counts. Assumes nothing.
use mathlib.Core.List.{List, [], ◌∷◌, ◌++◌, append_assoc}
use mathlib.Core.Option.{some}
use mathlib.Core.Path.{◌≡◌, refl, ap, ◌∙◌}
use Prim.Native.Nat.{ℕ, zero, suc, ◌+◌, ◌-◌, ◌^◌, ◌≤◌, ◌<◌}
use native.Mathlib.Omega.{arith}
use borrow.Author.Tests.{eq-eqb}
use lib.ListN.{length, get_or, get_or-append}
use lib.Seq.{get_or_at}
use Rattle.general.specs.BigEndian.{bytes_of}
use Rattle.general.specs.Indexed.{map_from}
use Rattle.general.specs.Counts.{count_of}
use Rattle.general.proofs.Bytes.{Bytes, bytes_append}
use Rattle.general.proofs.BigEndian.{bytes_of_number, number_bytes}
use Rattle.general.proofs.Indexed.{length-map_from, map_from_at}
use Rattle.consensus.specs.State.{state_of}
use Rattle.consensus.specs.declared.State.{State}
use Rattle.consensus.specs.declared.State.TheVariants.{Undecided as undecided, Decided as decided, Crashed as crashed}
use Rattle.coordinator.specs.Run.{Run}
use Rattle.text.specs.Line.{Line, bytes, no_line, lines_of}
use Rattle.ticket_format.specs.Says.{is_kind}
use Rattle.answers.specs.ResultLine.{end_bytes, process_line, last_line, joined, line_by, process_lines, result_lines}
use Rattle.demands.specs.OutputSays.{is_process_line, end_in, end_from, sent_in, sent_from, counts_in, counts_from, line_at, end_said, sent_said, counts_said}
use Rattle.text.proofs.LineReadBack.{line_read_back}

-- A process that ended so can be read back: it has decided or crashed, in a round of one byte, on a value of four.
unfoldable pub Fits : State → Type 0
Fits (undecided v) = ⊥
Fits (decided r v) = (r < 256) × (v < 2 ^ 32)
Fits (crashed r) = r < 256

-- Messages that each process sent can be read back, if there are fewer than 256.
abbrev pub AllFit : List ℕ → (first last : ℕ) → Type 0
AllFit counts first last = (p : ℕ) → first ≤ p → p < last → count_of counts p < 256

-- The bytes of a process's line.
abbrev pub line_bytes : (data_by commits_by : List ℕ) → ℕ → State → List ℕ
line_bytes data_by commits_by p s = 0x11 ∷ p ∷ end_bytes s ++ (count_of data_by p ∷ count_of commits_by p ∷ [])

-- Four bytes, and those of numbers after them, as every line of a result has.
four_then : (a b c d : ℕ) (bs : List ℕ) → a < 256 → b < 256 → c < 256 → d < 256 → Bytes bs → Bytes (a ∷ b ∷ c ∷ d ∷ bs)
four_then a b c d bs ha hb hc hd h zero = ha
four_then a b c d bs ha hb hc hd h (suc zero) = hb
four_then a b c d bs ha hb hc hd h (suc (suc zero)) = hc
four_then a b c d bs ha hb hc hd h (suc (suc (suc zero))) = hd
four_then a b c d bs ha hb hc hd h (suc (suc (suc (suc i)))) = h i

-- A value, and the messages sent.
abbrev value_and_sent : (v estimates commits : ℕ) → List ℕ
value_and_sent v estimates commits = bytes_of 4 v ++ (estimates ∷ commits ∷ [])

value_and_sent_lem : (v estimates commits : ℕ) → estimates < 256 → commits < 256 → Bytes (value_and_sent v estimates commits)
value_and_sent_lem v estimates commits e c = bytes_append (bytes_of 4 v) (estimates ∷ commits ∷ []) (bytes_of_number 4 v) sent
  where
    sent : Bytes (estimates ∷ commits ∷ [])
    sent zero = e
    sent (suc zero) = c
    sent (suc (suc i)) = omega arith

module _ (data_by commits_by : List ℕ) where
  pub process_line_bytes : (p : ℕ) (s : State) → p < 256 → Fits s → count_of data_by p < 256 → count_of commits_by p < 256 → Bytes (line_bytes data_by commits_by p s)
  unfolding Fits end_bytes
  process_line_bytes p (undecided v) h fits e c = absurd fits
  process_line_bytes p (decided r v) h fits e c =
      four_then 0x11 p 1 r (value_and_sent v (count_of data_by p) (count_of commits_by p)) (omega arith) h (omega arith) fits.0 (value_and_sent_lem v _ _ e c)
  process_line_bytes p (crashed r) h fits e c =
      four_then 0x11 p 2 r (value_and_sent 0 (count_of data_by p) (count_of commits_by p)) (omega arith) h (omega arith) fits (value_and_sent_lem 0 _ _ e c)

  -- What the line says: how the process ended, and what it sent.
  end_read_back : (p : ℕ) (s : State) → Fits s → end_in p (line_bytes data_by commits_by p s) ≡ some s
  unfolding Fits end_in is_process_line is_kind end_bytes bytes_of
  end_read_back p (undecided v) fits = absurd fits
  end_read_back p (decided r v) fits = rw (eq-eqb p p refl) (ap (λ (w : ℕ). some (decided r w)) (number_bytes 4 v (omega arith)))
  end_read_back p (crashed r) fits = rw (eq-eqb p p refl, number_bytes 4 0 (omega arith))

  sent_read_back : (p : ℕ) (s : State) → Fits s
      → sent_in p (line_bytes data_by commits_by p s) ≡ some (record { data_sent = count_of data_by p; commits_sent = count_of commits_by p })
  unfolding Fits sent_in is_process_line is_kind end_bytes bytes_of
  sent_read_back p (undecided v) fits = absurd fits
  sent_read_back p (decided r v) fits = rw (eq-eqb p p refl)
  sent_read_back p (crashed r) fits = rw (eq-eqb p p refl, number_bytes 4 0 (omega arith))

  abbrev process_line_of : ℕ → State → Line
  process_line_of p s = bytes (line_bytes data_by commits_by p s)

  -- The lines of processes, of which the first is process p.
  processes_read_back : (states : List State) (p : ℕ) (rest : List ℕ) → p + length states ≤ 256
      → ((k : ℕ) → k < length states → Fits (get_or states k (crashed 0))) → AllFit data_by p (p + length states) → AllFit commits_by p (p + length states)
      → lines_of (joined (map_from (line_by data_by commits_by) p states) ++ rest) ≡ map_from process_line_of p states ++ lines_of rest
  unfolding map_from joined line_by process_line
  processes_read_back [] p rest few fits e c = refl
  processes_read_back (s ∷ states) p rest few fits e c =
      let own = process_line_bytes p s (omega arith) (fits 0 (omega arith)) (e p (omega arith) (omega arith)) (c p (omega arith) (omega arith)) in
      let others = processes_read_back states (suc p) rest (omega arith) (λ k h. fits (suc k) (omega arith))
      (λ q h g. e q (omega arith) (omega arith)) (λ q h g. c q (omega arith) (omega arith))
      in
      rw append_assoc
      (line_read_back 0x11 (p ∷ end_bytes s ++ (count_of data_by p ∷ count_of commits_by p ∷ []))
      (joined (map_from (line_by data_by commits_by) (suc p) states) ++ rest) own
      ∙ ap (λ (lines : List Line). process_line_of p s ∷ lines) others)

-- A run and its f whose result can be read back.
pub record RunFits (run : Run) (data_counts commit_counts : List ℕ) (f n : ℕ) : Type 0 where
  pub all_end : length run.states ≡ n
  pub few : n < 256
  pub states : (k : ℕ) → k < n → Fits (get_or run.states k (crashed 0))
  pub rounds : run.rounds < 256
  pub crashes : f < 256
  pub speakers : run.speakers < 256
  pub data_sent : run.data_sent < 65536
  pub commits_sent : run.commits_sent < 65536
  pub data_by : AllFit data_counts 1 (1 + n)
  pub commits_by : AllFit commit_counts 1 (1 + n)

module _ (run : Run) (data_counts commit_counts : List ℕ) (f n : ℕ) (fits : RunFits run data_counts commit_counts f n) where
  abbrev pub count_bytes : List ℕ
  count_bytes = bytes_of 2 run.data_sent ++ bytes_of 2 run.commits_sent

  abbrev pub last_bytes : List ℕ
  last_bytes = 0x12 ∷ run.rounds ∷ f ∷ run.speakers ∷ count_bytes

  pub last_line_bytes : Bytes last_bytes
  last_line_bytes =
      let counts : Bytes count_bytes =
      bytes_append (bytes_of 2 run.data_sent) (bytes_of 2 run.commits_sent) (bytes_of_number 2 run.data_sent) (bytes_of_number 2 run.commits_sent) in
      four_then 0x12 run.rounds f run.speakers count_bytes (omega arith) fits.rounds fits.crashes fits.speakers counts

  last_read_back : (rest : List ℕ) → lines_of (last_line run f ++ rest) ≡ bytes last_bytes ∷ lines_of rest
  unfolding last_line
  last_read_back rest = line_read_back 0x12 (run.rounds ∷ f ∷ run.speakers ∷ count_bytes) rest last_line_bytes

  -- The lines of the processes, and all lines of the result.
  abbrev process_rows : List Line
  process_rows = map_from (process_line_of data_counts commit_counts) 1 run.states

  length-rows : length process_rows ≡ n
  length-rows = length-map_from _ 1 run.states ∙ fits.all_end

  result_read_back : (rest : List ℕ) → lines_of (result_lines run data_counts commit_counts f ++ rest) ≡ process_rows ++ (bytes last_bytes ∷ lines_of rest)
  unfolding result_lines process_lines
  result_read_back rest =
      rw append_assoc
      (processes_read_back data_counts commit_counts run.states 1 (last_line run f ++ rest) (omega arith) (λ k h. fits.states k (omega arith))
      (rw fits.all_end fits.data_by) (rw fits.all_end fits.commits_by)
      ∙ ap (λ (lines : List Line). process_rows ++ lines) (last_read_back rest))

  -- The line of process p.
  line_of_process : (rest : List ℕ) (p : ℕ) → 1 ≤ p → p ≤ n
      → line_at (result_lines run data_counts commit_counts f ++ rest) (p - 1) ≡ process_line_of data_counts commit_counts p (state_of run.states p)
  unfolding line_at state_of
  line_of_process rest p first last =
      let inside : p - 1 < length process_rows = omega (arith, length-rows) in
      ap (λ (lines : List Line). get_or lines (p - 1) no_line) (result_read_back rest)
      ∙ get_or-append process_rows (bytes last_bytes ∷ lines_of rest) no_line (p - 1) inside
      ∙ map_from_at _ run.states p (crashed 0) no_line first (omega (arith, fits.all_end))

  process_fits : (p : ℕ) → 1 ≤ p → p ≤ n → Fits (state_of run.states p)
  unfolding state_of
  process_fits p first last = fits.states (p - 1) (omega arith)

  -- How a process ended, and what it sent, by the result.
  pub end_said_lem : (rest : List ℕ) (p : ℕ) → 1 ≤ p → p ≤ n → end_said (result_lines run data_counts commit_counts f ++ rest) p ≡ some (state_of run.states p)
  unfolding end_said end_from
  end_said_lem rest p first last =
      ap (end_from p) (line_of_process rest p first last) ∙ end_read_back data_counts commit_counts p _ (process_fits p first last)

  pub sent_said_lem : (rest : List ℕ) (p : ℕ) → 1 ≤ p → p ≤ n
      → sent_said (result_lines run data_counts commit_counts f ++ rest) p ≡ some (record { data_sent = count_of data_counts p; commits_sent = count_of commit_counts p })
  unfolding sent_said sent_from
  sent_said_lem rest p first last =
      ap (sent_from p) (line_of_process rest p first last) ∙ sent_read_back data_counts commit_counts p _ (process_fits p first last)

  -- The counts, by the result.
  counts_read_back : counts_in last_bytes
      ≡ some (record { rounds = run.rounds; crashes = f; speakers = run.speakers; data_sent = run.data_sent; commits_sent = run.commits_sent })
  unfolding counts_in is_kind bytes_of
  counts_read_back = rw (number_bytes 2 run.data_sent fits.data_sent, number_bytes 2 run.commits_sent fits.commits_sent)

  pub counts_said_lem : (rest : List ℕ) → counts_said (result_lines run data_counts commit_counts f ++ rest) n
      ≡ some (record { rounds = run.rounds; crashes = f; speakers = run.speakers; data_sent = run.data_sent; commits_sent = run.commits_sent })
  unfolding counts_said line_at counts_from
  counts_said_lem rest =
      ap (λ (lines : List Line). counts_from (get_or lines n no_line)) (result_read_back rest)
      ∙ ap counts_from (get_or_at process_rows (bytes last_bytes) (lines_of rest) no_line n length-rows)
      ∙ counts_read_back
