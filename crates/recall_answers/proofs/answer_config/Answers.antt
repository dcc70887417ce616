-- The structure that stands in the log (`hardware-there`), in the record (`config-told`).
use mathlib.Core.Path.{refl, subst}
use native.Mathlib.Omega.{arith}
use Rattle.recall_answers.specs.Replies.{Placed}
use Rattle.recall_answers.proofs.Laws.{card-length, card-padded}
use Rattle.recall_answers.proofs.Config.{place_of, place-within, size_room, hardware-room, hardware-short, hardware-there}
use Rattle.recall_answers.proofs.Config.{hardware-none, config-told}
use borrow.Author.Rules.{rules}
use Rattle.recall_answers.proofs.answer_config.Goals as goal

pub config_response-requires : goal.config_response-requires
config_response-requires c =
    let channel = c.channel-name in
    record {
      section_in_bounds = search rules;
      hardware_len_bound = (omega arith, c.requires.section_len_bound);
      name_len = card-length
          channel.ensures;
      name_value = card-padded channel.ensures;
    }

pub returns-in_default : goal.returns-in_default
returns-in_default c =
    let channel = c.channel-name in
    let config-response = c.config_response in
    config-told c.args.conn c.args.log.now c.args.h.places channel.ensures c.in_default.is (hardware-none c.args.log.now)
    config-response.ensures

pub slice_bounds-message-count : goal.slice_bounds-message-count
slice_bounds-message-count c =
    let l = c.args.log.now in
    let w = subst (Placed l) c.in-Some.is (place_of l c.args.h.places c.args.conn c.requires.all) in
    place-within l w

pub slice_bounds-message-start : goal.slice_bounds-message-start
slice_bounds-message-start c =
    let l = c.args.log.now in
    let w = subst (Placed l) c.in-Some.is (place_of l c.args.h.places c.args.conn c.requires.all) in
    place-within l w

pub number2-size-requires : goal.number2-size-requires
number2-size-requires c =
    let l = c.args.log.now in
    let w = subst (Placed l) c.in-Some.is (place_of l c.args.h.places c.args.conn c.requires.all) in
    omega (arith, size_room l w refl refl)

pub data_of-requires : goal.data_of-requires
data_of-requires c =
    let number2 = c.number2-size in
    let l = c.args.log.now in
    let w = subst (Placed l) c.in-Some.is (place_of l c.args.h.places c.args.conn c.requires.all) in
    size_room l w refl number2.ensures

pub hardware-hardware-requires : goal.hardware-hardware-requires
hardware-hardware-requires c =
    let number2 = c.number2-size in
    let data_of = c.data_of in
    let l = c.args.log.now in
    let w = subst (Placed l) c.in-Some.is (place_of l c.args.h.places c.args.conn c.requires.all) in
    hardware-room l w refl number2.ensures data_of.ensures

pub config_response-requires-2 : goal.config_response-requires-2
config_response-requires-2 c =
    let channel = c.channel-name in
    let number2 = c.number2-size in
    let data_of = c.data_of in
    let hardware = c.hardware-hardware in
    let l = c.args.log.now in
    let w = subst (Placed l) c.in-Some.is (place_of l c.args.h.places c.args.conn c.requires.all) in
    let short = hardware-short l w refl number2.ensures data_of.ensures hardware.ensures in record {
      section_in_bounds = omega (arith, short, c.requires.section_len_bound, c.requires.in_bounds);
      hardware_len_bound
          = (short, c.requires.section_len_bound);
      name_len = card-length channel.ensures;
      name_value = card-padded channel.ensures;
    }

pub returns : goal.returns
returns c =
    let channel = c.channel-name in
    let number2 = c.number2-size in
    let data_of = c.data_of in
    let hardware = c.hardware-hardware in
    let config-response2 = c.config_response-2 in
    let l = c.args.log.now in
    let w = subst (Placed l) c.in-Some.is (place_of l c.args.h.places c.args.conn c.requires.all) in
    let there = hardware-there l w refl number2.ensures data_of.ensures hardware.ensures in
    config-told c.args.conn l c.args.h.places channel.ensures c.in-Some.is there config-response2.ensures
