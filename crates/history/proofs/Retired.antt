-- Over lists of calls: the frames that the record counts as sent are seven for each descriptor that its calls retired on the audio output endpoint.
use Prim.Native.Nat.{ℕ, ◌+◌, ◌*◌, ◌%◌, ◌^◌}
use mathlib.Core.Path.{◌≡◌, refl, ap, subst, ◌∙◌}
use mathlib.Core.Bool.{Bool, true, false}
use mathlib.Core.List.{List, [], ◌∷◌}
use native.Mathlib.Omega.{arith}
use lib.Dec.{eqb, leb}
use lib.ListN.{length}
use Rattle.bits.specs.Pick.{pick, pick_both}
use Rattle.record.specs.declared.Settings.{Settings}
use Rattle.record.specs.Record.{counter_at, counter_of, out_frames}
use Rattle.model.specs.Marks.{audio_mark, audio_out_retired}
use Rattle.usbhost.specs.declared.Host.{Host}
use Rattle.usbhost.specs.Answers.{Created}
use Rattle.usbhost.specs.Host.{new_host, settled, no_settings, created}
use Rattle.usbhost.specs.Calls as C
use Rattle.usbhost.specs.Calls.{midi_number, midi_queued, midi_sent, serial_number, serial_queued, serial_sent, give_number, frame_given, given, holds_frame, frame_taken, taken_frame, access_number, with_flag, device_written}
use Rattle.history.specs.Calls.{Call, microframe, midi_send, serial_send, frame_give, frame_take, device_read, device_write, step, after}
use Rattle.history.specs.Reach.{call_sends, changes_of, call_marked, calls_marked, SevenEach}
use Rattle.history.proofs.OneCall.{call_block}

-- ---- one call

-- a counter that wraps may wrap before seven are added
wraps : (a : ℕ) → (a % 2 ^ 16 + 7) % 2 ^ 16 ≡ (a + 7) % 2 ^ 16
wraps a = omega arith

-- one descriptor more, and a block with it; or neither
seven_more : (b : Bool) (n m : ℕ) (h h' : Host) → m ≡ pick b 1 0
    → counter_of out_frames h'.stats ≡ counter_of out_frames h.stats + pick b 7 0 → h'.audio.counter ≡ pick b ((h.audio.counter + 7) % 2 ^ 16) h.audio.counter
    → SevenEach h n → SevenEach h' (n + m)
seven_more true n m h h' one f c e =
    let more : 7 * n + 7 ≡ 7 * (n + m) = omega (arith, one) in
    record {
      frames = omega (arith, one, f, e.frames);
      counter = c ∙ ap (λ (k : ℕ). (k + 7) % 2 ^ 16) e.counter ∙ wraps (7 * n) ∙ ap (λ (k : ℕ). k % 2 ^ 16) more;
    }
seven_more false n m h h' one f c e =
    let same : n ≡ n + m = omega (arith, one) in
    record { frames = omega (arith, one, f, e.frames); counter = c ∙ e.counter ∙ ap (λ (k : ℕ). 7 * k % 2 ^ 16) same }

-- a call that is no microframe: accepted or not, it leaves both
stays : (b : Bool) (n : ℕ) (h h' : Host) → counter_of out_frames h'.stats ≡ counter_of out_frames h.stats → h'.audio.counter ≡ h.audio.counter
    → SevenEach h n → SevenEach (pick b h' h) (n + 0)
stays true n h h' f c e = record { frames = omega (arith, f, e.frames); counter = omega (arith, c, e.counter) }
stays false n h h' f c e = record { frames = omega (arith, e.frames); counter = omega (arith, e.counter) }

seven_step : (h : Host) (n : ℕ) (c : Call) → SevenEach h n → SevenEach (step h c) (n + call_marked (audio_mark false) h c)
unfolding step call_marked midi_sent serial_sent given taken_frame device_written midi_queued serial_queued frame_given frame_taken with_flag C.device_read
seven_step h n (microframe t l) e =
    let b = call_block t h l in
    seven_more (call_sends t h l) n (audio_out_retired (changes_of t h l)) h (step h (microframe t l)) b.retired b.sent b.counter e
seven_step h n (midi_send cable bs) e = stays (eqb (midi_number h cable bs) 0) n h _ refl refl e
seven_step h n (serial_send bs) e = stays (eqb (serial_number h bs) 0) n h _ refl refl e
seven_step h n (frame_give f sending) e = stays (eqb (give_number h f sending) 0) n h _ refl refl e
seven_step h n (frame_take received) e = stays (holds_frame h received) n h _ refl refl e
seven_step h n (device_read page off size) e = stays false n h h refl refl e
seven_step h n (device_write page off size v) e = stays (eqb (access_number h (length page) off size) 0) n h _ refl refl e

-- ---- every list of calls

all : (h : Host) (n : ℕ) (cs : List Call) → SevenEach h n → SevenEach (after h cs) (n + calls_marked (audio_mark false) h cs)
unfolding after calls_marked
all h n [] e = stays false n h h refl refl e
all h n (c ∷ cs) e =
    let more : n + call_marked (audio_mark false) h c + calls_marked (audio_mark false) (step h c) cs ≡ n + (call_marked (audio_mark false) h c + calls_marked (audio_mark false) (step h c) cs) = omega arith in
    subst (SevenEach (after (step h c) cs)) more (all (step h c) (n + call_marked (audio_mark false) h c) cs (seven_step h n c e))

-- from `new`, whatever its settings
pub sent_retired : (s : Settings) (cs : List Call) → SevenEach (after (new_host s) cs) (calls_marked (audio_mark false) (new_host s) cs)
unfolding new_host counter_at
sent_retired s cs = subst (SevenEach (after (new_host s) cs)) (omega arith) (all (new_host s) 0 cs (record { frames = refl; counter = refl }))

-- and from whatever `new` answers, refused or not
pub sent_retired_new : (c : Settings) (cs : List Call) → SevenEach (after (created c).host cs) (calls_marked (audio_mark false) (created c).host cs)
unfolding created
sent_retired_new c cs =
    pick_both (λ (x : Created). SevenEach (after x.host cs) (calls_marked (audio_mark false) x.host cs)) (leb c.spans 16)
    {a = record { refusal = 0; host = new_host (settled c) }} {b = record { refusal = 3; host = new_host no_settings }}
    (sent_retired (settled c) cs) (sent_retired no_settings cs)
