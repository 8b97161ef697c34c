use Rattle.http_routes.proofs.Built.{none-before, one, after-one, two, after-two, three}
use Rattle.http_routes.proofs.Built.{after-three, four, after-four, five, after-five, six}
use Rattle.http_routes.proofs.Built.{after-six, seven, after-seven, eight, after-eight, nine}
use Rattle.http_routes.proofs.Built.{after-nine, ten, after-ten, eleven, after-eleven, all-added}
use Rattle.http_routes.proofs.table.add_all.Goals as goal

pub add-requires : goal.add-requires
add-requires c =
    none-before _ c.requires

pub add-requires-2 : goal.add-requires-2
add-requires-2 c =
    let rows_1 = one _ _ c.requires c.in_ok-add.ensures in
    after-one _ rows_1

pub add-requires-3 : goal.add-requires-3
add-requires-3 c =
    let rows_1 = one _ _ c.requires c.in_ok-add.ensures in
    let rows_2 = two _ _ rows_1 c.in_ok-add-2.ensures in
    after-two _ rows_2

pub add-requires-4 : goal.add-requires-4
add-requires-4 c =
    let rows_1 = one _ _ c.requires c.in_ok-add.ensures in
    let rows_2 = two _ _ rows_1 c.in_ok-add-2.ensures in
    let rows_3 = three _ _ rows_2 c.in_ok-add-3.ensures in
    after-three _ rows_3

pub add-requires-5 : goal.add-requires-5
add-requires-5 c =
    let rows_1 = one _ _ c.requires c.in_ok-add.ensures in
    let rows_2 = two _ _ rows_1 c.in_ok-add-2.ensures in
    let rows_3 = three _ _ rows_2 c.in_ok-add-3.ensures in
    let rows_4 = four _ _ rows_3 c.in_ok-add-4.ensures in
    after-four _ rows_4

pub add-requires-6 : goal.add-requires-6
add-requires-6 c =
    let rows_1 = one _ _ c.requires c.in_ok-add.ensures in
    let rows_2 = two _ _ rows_1 c.in_ok-add-2.ensures in
    let rows_3 = three _ _ rows_2 c.in_ok-add-3.ensures in
    let rows_4 = four _ _ rows_3 c.in_ok-add-4.ensures in
    let rows_5 = five _ _ rows_4 c.in_ok-add-5.ensures in
    after-five _ rows_5

pub add-requires-7 : goal.add-requires-7
add-requires-7 c =
    let rows_1 = one _ _ c.requires c.in_ok-add.ensures in
    let rows_2 = two _ _ rows_1 c.in_ok-add-2.ensures in
    let rows_3 = three _ _ rows_2 c.in_ok-add-3.ensures in
    let rows_4 = four _ _ rows_3 c.in_ok-add-4.ensures in
    let rows_5 = five _ _ rows_4 c.in_ok-add-5.ensures in
    let rows_6 = six _ _ rows_5 c.in_ok-add-6.ensures in
    after-six _ rows_6

pub add-requires-8 : goal.add-requires-8
add-requires-8 c =
    let rows_1 = one _ _ c.requires c.in_ok-add.ensures in
    let rows_2 = two _ _ rows_1 c.in_ok-add-2.ensures in
    let rows_3 = three _ _ rows_2 c.in_ok-add-3.ensures in
    let rows_4 = four _ _ rows_3 c.in_ok-add-4.ensures in
    let rows_5 = five _ _ rows_4 c.in_ok-add-5.ensures in
    let rows_6 = six _ _ rows_5 c.in_ok-add-6.ensures in
    let rows_7 = seven _ _ rows_6 c.in_ok-add-7.ensures in
    after-seven _ rows_7

pub add-requires-9 : goal.add-requires-9
add-requires-9 c =
    let rows_1 = one _ _ c.requires c.in_ok-add.ensures in
    let rows_2 = two _ _ rows_1 c.in_ok-add-2.ensures in
    let rows_3 = three _ _ rows_2 c.in_ok-add-3.ensures in
    let rows_4 = four _ _ rows_3 c.in_ok-add-4.ensures in
    let rows_5 = five _ _ rows_4 c.in_ok-add-5.ensures in
    let rows_6 = six _ _ rows_5 c.in_ok-add-6.ensures in
    let rows_7 = seven _ _ rows_6 c.in_ok-add-7.ensures in
    let rows_8 = eight _ _ rows_7 c.in_ok-add-8.ensures in
    after-eight _ rows_8

pub add-requires-10 : goal.add-requires-10
add-requires-10 c =
    let rows_1 = one _ _ c.requires c.in_ok-add.ensures in
    let rows_2 = two _ _ rows_1 c.in_ok-add-2.ensures in
    let rows_3 = three _ _ rows_2 c.in_ok-add-3.ensures in
    let rows_4 = four _ _ rows_3 c.in_ok-add-4.ensures in
    let rows_5 = five _ _ rows_4 c.in_ok-add-5.ensures in
    let rows_6 = six _ _ rows_5 c.in_ok-add-6.ensures in
    let rows_7 = seven _ _ rows_6 c.in_ok-add-7.ensures in
    let rows_8 = eight _ _ rows_7 c.in_ok-add-8.ensures in
    let rows_9 = nine _ _ rows_8 c.in_ok-add-9.ensures in
    after-nine _ rows_9

pub add-requires-11 : goal.add-requires-11
add-requires-11 c =
    let rows_1 = one _ _ c.requires c.in_ok-add.ensures in
    let rows_2 = two _ _ rows_1 c.in_ok-add-2.ensures in
    let rows_3 = three _ _ rows_2 c.in_ok-add-3.ensures in
    let rows_4 = four _ _ rows_3 c.in_ok-add-4.ensures in
    let rows_5 = five _ _ rows_4 c.in_ok-add-5.ensures in
    let rows_6 = six _ _ rows_5 c.in_ok-add-6.ensures in
    let rows_7 = seven _ _ rows_6 c.in_ok-add-7.ensures in
    let rows_8 = eight _ _ rows_7 c.in_ok-add-8.ensures in
    let rows_9 = nine _ _ rows_8 c.in_ok-add-9.ensures in
    let rows_10 = ten _ _ rows_9 c.in_ok-add-10.ensures in
    after-ten _ rows_10

pub add-requires-12 : goal.add-requires-12
add-requires-12 c =
    let rows_1 = one _ _ c.requires c.in_ok-add.ensures in
    let rows_2 = two _ _ rows_1 c.in_ok-add-2.ensures in
    let rows_3 = three _ _ rows_2 c.in_ok-add-3.ensures in
    let rows_4 = four _ _ rows_3 c.in_ok-add-4.ensures in
    let rows_5 = five _ _ rows_4 c.in_ok-add-5.ensures in
    let rows_6 = six _ _ rows_5 c.in_ok-add-6.ensures in
    let rows_7 = seven _ _ rows_6 c.in_ok-add-7.ensures in
    let rows_8 = eight _ _ rows_7 c.in_ok-add-8.ensures in
    let rows_9 = nine _ _ rows_8 c.in_ok-add-9.ensures in
    let rows_10 = ten _ _ rows_9 c.in_ok-add-10.ensures in
    let rows_11 = eleven _ _ rows_10 c.in_ok-add-11.ensures in
    after-eleven _ rows_11

pub returns : goal.returns
returns c =
    let rows_1 = one _ _ c.requires c.in_ok-add.ensures in
    let rows_2 = two _ _ rows_1 c.in_ok-add-2.ensures in
    let rows_3 = three _ _ rows_2 c.in_ok-add-3.ensures in
    let rows_4 = four _ _ rows_3 c.in_ok-add-4.ensures in
    let rows_5 = five _ _ rows_4 c.in_ok-add-5.ensures in
    let rows_6 = six _ _ rows_5 c.in_ok-add-6.ensures in
    let rows_7 = seven _ _ rows_6 c.in_ok-add-7.ensures in
    let rows_8 = eight _ _ rows_7 c.in_ok-add-8.ensures in
    let rows_9 = nine _ _ rows_8 c.in_ok-add-9.ensures in
    let rows_10 = ten _ _ rows_9 c.in_ok-add-10.ensures in
    let rows_11 = eleven _ _ rows_10 c.in_ok-add-11.ensures in
    all-added c.add-12.result _ _ rows_11 c.add-12.ensures
