mod Towers
mod SameLaws
