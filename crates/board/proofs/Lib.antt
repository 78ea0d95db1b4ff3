mod Places
mod WindowByWindow
mod Takes
