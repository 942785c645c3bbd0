-- The table of limits: each list of rows is one computation. Assumes nothing.
use Rattle.std.proofs.Common.{◌≡◌, ℕ, true, false, List, ◌++◌, refl}
use mathlib.Core.List.{flat_map}
use Rattle.midi.specs.Packer.{feed_of, message_length, message_code, running_of, events_of, packet_count}
use Rattle.usbdev.specs.Access.{fits}
use Rattle.bus.specs.Sized.{is_power}
use Rattle.record.specs.Record.{counter_at}
use Rattle.bounds.specs.Bounds.{none_above, made, made_at, all_made, other, none_asks, setups_ok, enumerating_ok, request_ok, queues_ok, packer_ok, each_packer, counts_ok, counters_ok, credit_ok, timer_ok, timers_ok, audio_ok, in_bounds, ring_ok, areas_ok}
use Rattle.usbhost.specs.Host.{created}
use Rattle.usbhost.specs.Calls.{sending_length, midi_number, access_number}
use Rattle.usbhost.specs.Frame.{lengths_ok, bounds_ok}
use Rattle.limits.specs.Cases.{usual, value_in, Table}
use Rattle.limits.specs.Limits.{windows, areas, span_counts, accesses, cables, queues, rings, stream, counts, timers, counters, phases, forms, setup_queues, full_queues, requests, packers, every_packer, space, room, order, made_below, Limits, many, address, configuration, zeros}
use Rattle.limits.proofs.Numbers.{table}
use Rattle.limits.proofs.Queues.{setups_many}

-- the tests of queues in which 257 wait, or 256
full : (behind : List ℕ) → setups_ok 257 ((many 256 ++ address) ++ behind) ≡ true
unfolding all_made none_asks made_at made
full behind = setups_many 256 0 address behind

full_asking : (behind : List ℕ) → setups_ok 257 ((many 256 ++ configuration) ++ behind) ≡ true
unfolding all_made none_asks made_at made
full_asking behind = setups_many 256 0 configuration behind

full_early : (behind : List ℕ) → setups_ok 257 ((many 255 ++ (configuration ++ address)) ++ behind) ≡ false
unfolding all_made none_asks made_at made other
full_early behind = setups_many 255 1 (configuration ++ address) behind

full_zeros : (behind : List ℕ) → setups_ok 257 ((many 256 ++ zeros) ++ behind) ≡ false
unfolding all_made none_asks made_at made
full_zeros behind = setups_many 256 0 zeros behind

full_but_one : (behind : List ℕ) → setups_ok 256 ((many 255 ++ (address ++ zeros)) ++ behind) ≡ true
unfolding all_made none_asks made_at made
full_but_one behind = setups_many 255 0 (address ++ zeros) behind

full_queues_hold : Table full_queues
unfolding feed_of message_length message_code running_of events_of packet_count fits is_power made enumerating_ok request_ok queues_ok packer_ok each_packer counts_ok counters_ok none_above counter_at credit_ok timer_ok timers_ok audio_ok in_bounds ring_ok areas_ok sending_length midi_number access_number lengths_ok bounds_ok usual value_in full_queues
full_queues_hold =
    table full_queues (λ o behind. rw (full behind, full_asking behind, full_early behind, full_zeros behind, full_but_one behind))

pub limits : Limits
unfolding feed_of message_length message_code running_of events_of packet_count fits is_power made made_at all_made other none_asks setups_ok enumerating_ok request_ok queues_ok packer_ok each_packer counts_ok counters_ok none_above counter_at credit_ok timer_ok timers_ok audio_ok in_bounds ring_ok areas_ok created sending_length midi_number access_number lengths_ok bounds_ok usual value_in flat_map made_below windows areas span_counts accesses cables queues rings stream counts timers counters phases forms setup_queues requests packers every_packer space room order
limits =
    record {
      number_1 = table windows (λ o behind. refl);
      number_2 = table areas (λ o behind. refl);
      number_3 = table span_counts (λ o behind. refl);
      number_4 = table accesses (λ o behind. refl);
      number_8 = table cables (λ o behind. refl);
      in_queues = table queues (λ o behind. refl);
      in_rings = table rings (λ o behind. refl);
      in_stream = table stream (λ o behind. refl);
      in_counts = table counts (λ o behind. refl);
      in_timers = table timers (λ o behind. refl);
      in_counters = table counters (λ o behind. refl);
      in_phases = table phases (λ o behind. refl);
      in_forms = table forms (λ o behind. refl);
      every_byte = refl;
      in_setups = table setup_queues (λ o behind. refl);
      in_full_queues = full_queues_hold;
      in_requests = table requests (λ o behind. refl);
      in_packers = table packers (λ o behind. refl);
      in_every_packer = table every_packer (λ o behind. refl);
      number_7 = table space (λ o behind. refl);
      in_room = table room (λ o behind. refl);
      in_order = table order (λ o behind. refl);
      new_sixteen = λ c. refl;
      new_seventeen = λ c. refl;
    }
