-- What stands at the front of the buffer is what the program writes: one law for each answer of running, over plain variables. Assumes nothing.
use mathlib.Core.List.{List, ◌++◌}
use mathlib.Core.Path.{◌≡◌, refl, sym, ap, ◌∙◌}
use Prim.Native.Nat.{ℕ, ◌≤◌}
use lib.ListN.{length, take, drop}
use lib.Seq.{take_at}
use Rattle.std.specs.Prelude.{Result, Ok, Err}
use Rattle.general.specs.BigEndian.{bytes_of}
use Rattle.general.specs.Answer.{Answer, accepted, refused}
use Rattle.text.specs.HexText.{hex_digits, hex_line}
use Rattle.answers.specs.ResultLine.{result_size, refusal_line}
use Rattle.answers.specs.Running.{running, written, program_writes}
use Rattle.refusals.specs.Number.{number_of}
use Rattle.refusals.specs.declared.Refused.{Refused as RefusedLine}
use Rattle.answers.specs.Reply.{Reply, Given, Refused, reply_of, Ran}
use Rattle.answers.proofs.Replies.{given_told, refused_told, written_fits}

-- A refusal's line has nine bytes.
length-refusal : (number line : ℕ) → length (refusal_line number line) ≡ 9
unfolding refusal_line hex_line hex_digits bytes_of
length-refusal number line = refl

module _ (text before after : List ℕ) (reply : Reply) (room : length before ≡ result_size 64) (ran : Ran text before after reply) where
  -- What the program writes, by what running answers in its buffer.
  writes_as : (a : Answer (List ℕ)) → running text (length before) ≡ a → program_writes text ≡ written a
  unfolding program_writes
  writes_as a e = ap (λ (k : ℕ). written (running text k)) (sym room) ∙ ap written e

  -- The result stands at the front of the buffer.
  front_written : (size : ℕ) → reply ≡ Given size → take size after ≡ program_writes text
  unfolding written
  front_written size is =
      let (result, e, same, stored) = given_told (running text) before after reply ran size is in
      ap (take size) stored ∙ take_at result (drop (length result) before) size same ∙ sym (writes_as (accepted result) e)

  -- The refusal's line stands there, once it is put there.
  front_refused : (number line : ℕ) → reply ≡ Refused number line → (out rest : List ℕ) → out ≡ refusal_line number line ++ rest
      → take 9 out ≡ program_writes text
  unfolding written
  front_refused number line is out rest put =
      ap (take 9) put ∙ take_at (refusal_line number line) rest 9 (length-refusal number line)
      ∙ sym (writes_as (refused number line) (refused_told (running text) before after reply ran number line is))

-- By the code's result.
module _ (text before after : List ℕ) (result : Result ℕ RefusedLine) (room : length before ≡ result_size 64)
    (ran : Ran text before after (reply_of result)) where
  pub ok_written : (size : ℕ) → result ≡ Ok size → take size after ≡ program_writes text
  unfolding reply_of
  ok_written size e = front_written text before after (reply_of result) room ran size (ap reply_of e)

  pub ok_fits : (size : ℕ) → result ≡ Ok size → size ≤ length before
  unfolding reply_of
  ok_fits size e = written_fits text before after (reply_of result) size ran (ap reply_of e)

  pub err_written : (e : RefusedLine) → result ≡ Err e → (out rest : List ℕ) → out ≡ refusal_line (number_of e.refusal) e.line ++ rest
      → take 9 out ≡ program_writes text
  unfolding reply_of
  err_written e is out rest put = front_refused text before after (reply_of result) room ran (number_of e.refusal) e.line (ap reply_of is) out rest put
