-- The names of the examples, as bytes.
use Rattle.std.specs.Prelude.{[], ◌∷◌}
use Rattle.vd_terms.specs.Terms.{Name}

abbrev pub name_A : Name
name_A = 65 ∷ []

abbrev pub name_B : Name
name_B = 66 ∷ []

abbrev pub name_E : Name
name_E = 69 ∷ []

abbrev pub name_Z : Name
name_Z = 90 ∷ []

abbrev pub name_a : Name
name_a = 97 ∷ []

abbrev pub name_a0 : Name
name_a0 = 97 ∷ 48 ∷ []

abbrev pub name_a1 : Name
name_a1 = 97 ∷ 49 ∷ []

abbrev pub name_a2 : Name
name_a2 = 97 ∷ 50 ∷ []

abbrev pub name_app_assoc : Name
name_app_assoc = 97 ∷ 112 ∷ 112 ∷ 95 ∷ 97 ∷ 115 ∷ 115 ∷ 111 ∷ 99 ∷ []

abbrev pub name_app_nil : Name
name_app_nil = 97 ∷ 112 ∷ 112 ∷ 95 ∷ 110 ∷ 105 ∷ 108 ∷ []

abbrev pub name_arr : Name
name_arr = 97 ∷ 114 ∷ 114 ∷ []

abbrev pub name_b : Name
name_b = 98 ∷ []

abbrev pub name_b0 : Name
name_b0 = 98 ∷ 48 ∷ []

abbrev pub name_b1 : Name
name_b1 = 98 ∷ 49 ∷ []

abbrev pub name_b2 : Name
name_b2 = 98 ∷ 50 ∷ []

abbrev pub name_band_hi : Name
name_band_hi = 98 ∷ 97 ∷ 110 ∷ 100 ∷ 95 ∷ 104 ∷ 105 ∷ []

abbrev pub name_band_lo : Name
name_band_lo = 98 ∷ 97 ∷ 110 ∷ 100 ∷ 95 ∷ 108 ∷ 111 ∷ []

abbrev pub name_bump : Name
name_bump = 98 ∷ 117 ∷ 109 ∷ 112 ∷ []

abbrev pub name_c : Name
name_c = 99 ∷ []

abbrev pub name_cnt : Name
name_cnt = 99 ∷ 110 ∷ 116 ∷ []

abbrev pub name_cons_head : Name
name_cons_head = 99 ∷ 111 ∷ 110 ∷ 115 ∷ 95 ∷ 104 ∷ 101 ∷ 97 ∷ 100 ∷ []

abbrev pub name_ctr : Name
name_ctr = 99 ∷ 116 ∷ 114 ∷ []

abbrev pub name_d0 : Name
name_d0 = 100 ∷ 48 ∷ []

abbrev pub name_done : Name
name_done = 100 ∷ 111 ∷ 110 ∷ 101 ∷ []

abbrev pub name_e0 : Name
name_e0 = 101 ∷ 48 ∷ []

abbrev pub name_e1 : Name
name_e1 = 101 ∷ 49 ∷ []

abbrev pub name_e2 : Name
name_e2 = 101 ∷ 50 ∷ []

abbrev pub name_each_hi : Name
name_each_hi = 101 ∷ 97 ∷ 99 ∷ 104 ∷ 95 ∷ 104 ∷ 105 ∷ []

abbrev pub name_each_sub : Name
name_each_sub = 101 ∷ 97 ∷ 99 ∷ 104 ∷ 95 ∷ 115 ∷ 117 ∷ 98 ∷ []

abbrev pub name_eq_zero : Name
name_eq_zero = 101 ∷ 113 ∷ 95 ∷ 122 ∷ 101 ∷ 114 ∷ 111 ∷ []

abbrev pub name_f : Name
name_f = 102 ∷ []

abbrev pub name_g : Name
name_g = 103 ∷ []

abbrev pub name_get : Name
name_get = 103 ∷ 101 ∷ 116 ∷ []

abbrev pub name_h : Name
name_h = 104 ∷ []

abbrev pub name_h0 : Name
name_h0 = 104 ∷ 48 ∷ []

abbrev pub name_h1 : Name
name_h1 = 104 ∷ 49 ∷ []

abbrev pub name_h2 : Name
name_h2 = 104 ∷ 50 ∷ []

abbrev pub name_i : Name
name_i = 105 ∷ []

abbrev pub name_i0 : Name
name_i0 = 105 ∷ 48 ∷ []

abbrev pub name_i1 : Name
name_i1 = 105 ∷ 49 ∷ []

abbrev pub name_inc : Name
name_inc = 105 ∷ 110 ∷ 99 ∷ []

abbrev pub name_int_vi : Name
name_int_vi = 105 ∷ 110 ∷ 116 ∷ 95 ∷ 118 ∷ 105 ∷ []

abbrev pub name_iv : Name
name_iv = 105 ∷ 118 ∷ []

abbrev pub name_j : Name
name_j = 106 ∷ []

abbrev pub name_ja : Name
name_ja = 106 ∷ 97 ∷ []

abbrev pub name_jb : Name
name_jb = 106 ∷ 98 ∷ []

abbrev pub name_k : Name
name_k = 107 ∷ []

abbrev pub name_k1 : Name
name_k1 = 107 ∷ 49 ∷ []

abbrev pub name_k2 : Name
name_k2 = 107 ∷ 50 ∷ []

abbrev pub name_k3 : Name
name_k3 = 107 ∷ 51 ∷ []

abbrev pub name_k4 : Name
name_k4 = 107 ∷ 52 ∷ []

abbrev pub name_k5 : Name
name_k5 = 107 ∷ 53 ∷ []

abbrev pub name_k6 : Name
name_k6 = 107 ∷ 54 ∷ []

abbrev pub name_l : Name
name_l = 108 ∷ []

abbrev pub name_l0 : Name
name_l0 = 108 ∷ 48 ∷ []

abbrev pub name_l1 : Name
name_l1 = 108 ∷ 49 ∷ []

abbrev pub name_l2 : Name
name_l2 = 108 ∷ 50 ∷ []

abbrev pub name_len_pos : Name
name_len_pos = 108 ∷ 101 ∷ 110 ∷ 95 ∷ 112 ∷ 111 ∷ 115 ∷ []

abbrev pub name_len_rep : Name
name_len_rep = 108 ∷ 101 ∷ 110 ∷ 95 ∷ 114 ∷ 101 ∷ 112 ∷ []

abbrev pub name_len_upd : Name
name_len_upd = 108 ∷ 101 ∷ 110 ∷ 95 ∷ 117 ∷ 112 ∷ 100 ∷ []

abbrev pub name_list_cons : Name
name_list_cons = 108 ∷ 105 ∷ 115 ∷ 116 ∷ 95 ∷ 99 ∷ 111 ∷ 110 ∷ 115 ∷ []

abbrev pub name_listrep : Name
name_listrep = 108 ∷ 105 ∷ 115 ∷ 116 ∷ 114 ∷ 101 ∷ 112 ∷ []

abbrev pub name_lt_one : Name
name_lt_one = 108 ∷ 116 ∷ 95 ∷ 111 ∷ 110 ∷ 101 ∷ []

abbrev pub name_m : Name
name_m = 109 ∷ []

abbrev pub name_main : Name
name_main = 109 ∷ 97 ∷ 105 ∷ 110 ∷ []

abbrev pub name_n : Name
name_n = 110 ∷ []

abbrev pub name_n0 : Name
name_n0 = 110 ∷ 48 ∷ []

abbrev pub name_n1 : Name
name_n1 = 110 ∷ 49 ∷ []

abbrev pub name_n2 : Name
name_n2 = 110 ∷ 50 ∷ []

abbrev pub name_ne_lt : Name
name_ne_lt = 110 ∷ 101 ∷ 95 ∷ 108 ∷ 116 ∷ []

abbrev pub name_nop : Name
name_nop = 110 ∷ 111 ∷ 112 ∷ []

abbrev pub name_nope : Name
name_nope = 110 ∷ 111 ∷ 112 ∷ 101 ∷ []

abbrev pub name_nth_rep : Name
name_nth_rep = 110 ∷ 116 ∷ 104 ∷ 95 ∷ 114 ∷ 101 ∷ 112 ∷ []

abbrev pub name_num_hi : Name
name_num_hi = 110 ∷ 117 ∷ 109 ∷ 95 ∷ 104 ∷ 105 ∷ []

abbrev pub name_num_lo : Name
name_num_lo = 110 ∷ 117 ∷ 109 ∷ 95 ∷ 108 ∷ 111 ∷ []

abbrev pub name_num_vi : Name
name_num_vi = 110 ∷ 117 ∷ 109 ∷ 95 ∷ 118 ∷ 105 ∷ []

abbrev pub name_o : Name
name_o = 111 ∷ []

abbrev pub name_o0 : Name
name_o0 = 111 ∷ 48 ∷ []

abbrev pub name_o1 : Name
name_o1 = 111 ∷ 49 ∷ []

abbrev pub name_o2 : Name
name_o2 = 111 ∷ 50 ∷ []

abbrev pub name_off_inj : Name
name_off_inj = 111 ∷ 102 ∷ 102 ∷ 95 ∷ 105 ∷ 110 ∷ 106 ∷ []

abbrev pub name_ov : Name
name_ov = 111 ∷ 118 ∷ []

abbrev pub name_p : Name
name_p = 112 ∷ []

abbrev pub name_p00 : Name
name_p00 = 112 ∷ 48 ∷ 48 ∷ []

abbrev pub name_p1 : Name
name_p1 = 112 ∷ 49 ∷ []

abbrev pub name_p10 : Name
name_p10 = 112 ∷ 49 ∷ 48 ∷ []

abbrev pub name_p20 : Name
name_p20 = 112 ∷ 50 ∷ 48 ∷ []

abbrev pub name_pos : Name
name_pos = 112 ∷ 111 ∷ 115 ∷ []

abbrev pub name_ptr_null : Name
name_ptr_null = 112 ∷ 116 ∷ 114 ∷ 95 ∷ 110 ∷ 117 ∷ 108 ∷ 108 ∷ []

abbrev pub name_put : Name
name_put = 112 ∷ 117 ∷ 116 ∷ []

abbrev pub name_q : Name
name_q = 113 ∷ []

abbrev pub name_q0 : Name
name_q0 = 113 ∷ 48 ∷ []

abbrev pub name_q1 : Name
name_q1 = 113 ∷ 49 ∷ []

abbrev pub name_q2 : Name
name_q2 = 113 ∷ 50 ∷ []

abbrev pub name_quot_hi : Name
name_quot_hi = 113 ∷ 117 ∷ 111 ∷ 116 ∷ 95 ∷ 104 ∷ 105 ∷ []

abbrev pub name_quot_lo : Name
name_quot_lo = 113 ∷ 117 ∷ 111 ∷ 116 ∷ 95 ∷ 108 ∷ 111 ∷ []

abbrev pub name_r : Name
name_r = 114 ∷ []

abbrev pub name_r0 : Name
name_r0 = 114 ∷ 48 ∷ []

abbrev pub name_r1 : Name
name_r1 = 114 ∷ 49 ∷ []

abbrev pub name_r2 : Name
name_r2 = 114 ∷ 50 ∷ []

abbrev pub name_rem_eq : Name
name_rem_eq = 114 ∷ 101 ∷ 109 ∷ 95 ∷ 101 ∷ 113 ∷ []

abbrev pub name_rev_app : Name
name_rev_app = 114 ∷ 101 ∷ 118 ∷ 95 ∷ 97 ∷ 112 ∷ 112 ∷ []

abbrev pub name_rev_cons : Name
name_rev_cons = 114 ∷ 101 ∷ 118 ∷ 95 ∷ 99 ∷ 111 ∷ 110 ∷ 115 ∷ []

abbrev pub name_rev_rev : Name
name_rev_rev = 114 ∷ 101 ∷ 118 ∷ 95 ∷ 114 ∷ 101 ∷ 118 ∷ []

abbrev pub name_reverse : Name
name_reverse = 114 ∷ 101 ∷ 118 ∷ 101 ∷ 114 ∷ 115 ∷ 101 ∷ []

abbrev pub name_s : Name
name_s = 115 ∷ []

abbrev pub name_s0 : Name
name_s0 = 115 ∷ 48 ∷ []

abbrev pub name_s1 : Name
name_s1 = 115 ∷ 49 ∷ []

abbrev pub name_s2 : Name
name_s2 = 115 ∷ 50 ∷ []

abbrev pub name_sub_all : Name
name_sub_all = 115 ∷ 117 ∷ 98 ∷ 95 ∷ 97 ∷ 108 ∷ 108 ∷ []

abbrev pub name_sub_len : Name
name_sub_len = 115 ∷ 117 ∷ 98 ∷ 95 ∷ 108 ∷ 101 ∷ 110 ∷ []

abbrev pub name_sub_one : Name
name_sub_one = 115 ∷ 117 ∷ 98 ∷ 95 ∷ 111 ∷ 110 ∷ 101 ∷ []

abbrev pub name_sub_split : Name
name_sub_split = 115 ∷ 117 ∷ 98 ∷ 95 ∷ 115 ∷ 112 ∷ 108 ∷ 105 ∷ 116 ∷ []

abbrev pub name_sum_cons : Name
name_sum_cons = 115 ∷ 117 ∷ 109 ∷ 95 ∷ 99 ∷ 111 ∷ 110 ∷ 115 ∷ []

abbrev pub name_sum_hi : Name
name_sum_hi = 115 ∷ 117 ∷ 109 ∷ 95 ∷ 104 ∷ 105 ∷ []

abbrev pub name_sum_lo : Name
name_sum_lo = 115 ∷ 117 ∷ 109 ∷ 95 ∷ 108 ∷ 111 ∷ []

abbrev pub name_t : Name
name_t = 116 ∷ []

abbrev pub name_two : Name
name_two = 116 ∷ 119 ∷ 111 ∷ []

abbrev pub name_u0 : Name
name_u0 = 117 ∷ 48 ∷ []

abbrev pub name_u1 : Name
name_u1 = 117 ∷ 49 ∷ []

abbrev pub name_u2 : Name
name_u2 = 117 ∷ 50 ∷ []

abbrev pub name_unum_hi : Name
name_unum_hi = 117 ∷ 110 ∷ 117 ∷ 109 ∷ 95 ∷ 104 ∷ 105 ∷ []

abbrev pub name_unum_vi : Name
name_unum_vi = 117 ∷ 110 ∷ 117 ∷ 109 ∷ 95 ∷ 118 ∷ 105 ∷ []

abbrev pub name_v : Name
name_v = 118 ∷ []

abbrev pub name_v0 : Name
name_v0 = 118 ∷ 48 ∷ []

abbrev pub name_v1 : Name
name_v1 = 118 ∷ 49 ∷ []

abbrev pub name_v2 : Name
name_v2 = 118 ∷ 50 ∷ []

abbrev pub name_vi_inj : Name
name_vi_inj = 118 ∷ 105 ∷ 95 ∷ 105 ∷ 110 ∷ 106 ∷ []

abbrev pub name_vi_wrap : Name
name_vi_wrap = 118 ∷ 105 ∷ 95 ∷ 119 ∷ 114 ∷ 97 ∷ 112 ∷ []

abbrev pub name_vu_inj : Name
name_vu_inj = 118 ∷ 117 ∷ 95 ∷ 105 ∷ 110 ∷ 106 ∷ []

abbrev pub name_w : Name
name_w = 119 ∷ []

abbrev pub name_w0 : Name
name_w0 = 119 ∷ 48 ∷ []

abbrev pub name_w1 : Name
name_w1 = 119 ∷ 49 ∷ []

abbrev pub name_w2 : Name
name_w2 = 119 ∷ 50 ∷ []

abbrev pub name_x : Name
name_x = 120 ∷ []

abbrev pub name_x1 : Name
name_x1 = 120 ∷ 49 ∷ []

abbrev pub name_y : Name
name_y = 121 ∷ []

abbrev pub name_z : Name
name_z = 122 ∷ []

abbrev pub name_zz : Name
name_zz = 122 ∷ 122 ∷ []
